-- Counts of sets of numbers that are matched with one another: so there are no more first rows than rows.
use Rattle.std.proofs.Common.{inl, inr, ◌≡◌, ◌<◌, ◌≤◌, ◌==◌, ◌&&◌, not, ℕ, zero, suc, Bool, true, false, List, length, refl, sym, ap, subst, ◌∙◌, arith}
use Rattle.std.proofs.lemmas.Bool.{cases_Bool, eqb-true}
use Rattle.attr_sets.specs.Attributes.{Attributes, only, difference, count_below}
use Rattle.attr_sets.proofs.AttributesLemmas.{count_below-difference_only}
use Rattle.row_groups.specs.Numberings.{AreFirsts, number_at}
use Rattle.dep_model.proofs.SchemeLemmas.{count_below-start, count_below-one_more, count_below-no_more}

pub other_number : (a b : ℕ) → (a ≡ b → ⊥) → (a == b) ≡ false
other_number a b h = elim (cases_Bool (a == b)) [ inl e ↦ absurd (h (eqb-true a b e)) | inr e ↦ e ]

-- where each member of a set has a member of another, and no two have one, the other has as many
pub count_below-injection : (n m : ℕ) (a b : Attributes) (R : ℕ → ℕ → Type 0) → ((i : ℕ) → i < n → a i ≡ true → (j : ℕ) × (j < m) × (b j ≡ true) × R i j)
    → ((i k j : ℕ) → i < n → k < n → a i ≡ true → a k ≡ true → R i j → R k j → i ≡ k) → count_below a n ≤ count_below b m
count_below-injection zero m a b R each once = omega (arith, count_below-start a)
count_below-injection (suc n) m a b R each once = elim (cases_Bool (a n)) [
  | inl has ↦
      let (j, low, member, r) = each n (omega arith) has in
      let rest = count_below-injection n m a (difference b (only j)) R (λ i l h.
      let (k, kl, kb, kr) = each i (omega (arith, l)) h in
      let apart : (k == j) ≡ false = other_number k j (λ e. absurd (omega (arith, l, once i n j (omega (arith, l)) (omega arith) h has (subst (R i) e kr) r))) in
      (k, kl, ap (λ (t : Bool). t && not (k == j)) kb ∙ ap not apart, kr))
      (λ i k j li lk hi hk. once i k j (omega (arith, li)) (omega (arith, lk)) hi hk) in
      omega (arith, rest, count_below-difference_only m b j low member, count_below-one_more n a has)
  | inr lacks ↦
      let rest = count_below-injection n m a b R (λ i l h. each i (omega (arith, l)) h) (λ i k j li lk hi hk. once i k j (omega (arith, li)) (omega (arith, lk)) hi hk) in
      omega (arith, rest, count_below-no_more n a lacks)
]

-- ---- no more groups than rows
all_count : (n : ℕ) → count_below (λ k. true) n ≡ n
unfolding count_below
all_count zero = refl
all_count (suc n) = omega (arith, all_count n)

pub few_firsts : (numbers firsts : List ℕ) → AreFirsts numbers firsts → length firsts ≤ length numbers
few_firsts numbers firsts are =
    let few = count_below-injection (length firsts) (length numbers) (λ k. true) (λ k. true) (λ g i. number_at numbers i ≡ g)
    (λ g low is. (number_at firsts g, are.within g low, refl, are.number g low))
    (λ g h i g_in h_in g_is h_is one other. sym one ∙ other) in
    omega (arith, few, all_count (length firsts), all_count (length numbers))
