-- Rows in groups: the first rows of the groups by all columns are the different rows, and how many of them are in each
-- group of a set are the sizes by that set.
use Rattle.std.proofs.Common.{◌≡◌, ◌+◌, ◌<◌, ◌∷◌, [], ◌++◌, ℕ, List, length, slice_index_or, sym, ap, subst, ◌∙◌, inl, inr, arith}
use Rattle.std.proofs.Math.Seq.{get_or-append_seam}
use Rattle.std.proofs.lemmas.Bool.{cases_lt}
use Rattle.std.proofs.lemmas.List.{get_or_append_left}
use Rattle.attr_sets.specs.Attributes.{Attributes, below}
use Rattle.attr_sets.specs.Sets.{attributes}
use Rattle.row_groups.specs.Numberings.{AreFirsts, AreGroups, number_at}
use Rattle.dep_model.specs.Tuples.{Relation}
use Rattle.mvd_laws.specs.Sizes.{AreDifferentRows, AreSizes}
use Rattle.mvd_discovery.specs.Counting.{ArePartSizes, set_of}

-- ---- the different rows
pub different_rows : (n : ℕ) (r : Relation) (numbers firsts : List ℕ) → AreGroups r (below n) numbers → AreFirsts numbers firsts
    → AreDifferentRows n r firsts
different_rows n r numbers firsts are first = record {
  within = λ j low. in_rows j low;
  all = λ i low.
      let number = number_at numbers i in
      let short = first.each i (omega (arith, low, are.one_each)) in
      (number, short, (are.equal i (number_at firsts number) low (in_rows number short)).0 (sym (first.number number short)));
  once = λ j k j_low k_low agree.
      sym (first.number j j_low) ∙ (are.equal (number_at firsts j) (number_at firsts k) (in_rows j j_low) (in_rows k k_low)).1 agree
      ∙ first.number k k_low;
}
  where
    in_rows : (j : ℕ) → j < length firsts → number_at firsts j < length r
    in_rows j low = omega (arith, first.within j low, are.one_each)

-- ---- sizes
pub sizes_by_groups : (r : Relation) (x : Attributes) (numbers ones sizes : List ℕ) → AreGroups r x numbers
    → ((j : ℕ) → j < length ones → number_at ones j < length r) → ArePartSizes numbers ones sizes → AreSizes r ones x sizes
sizes_by_groups r x numbers ones sizes are low parts = record {
  numbers = λ j. number_at numbers (number_at ones j);
  agreement = λ j k j_low k_low. are.equal (number_at ones j) (number_at ones k) (low j j_low) (low k k_low);
  one_each = parts.one_each;
  each = parts.each;
}

-- one number more at the end
pub number_more : (f : ℕ → ℕ) (xs new : List ℕ) (n v : ℕ) → length xs ≡ n → new ≡ xs ++ v ∷ [] → v ≡ f n
    → ((j : ℕ) → j < n → number_at xs j ≡ f j) → (j : ℕ) → j < n + 1 → number_at new j ≡ f j
number_more f xs new n v count is last old j low = ap (λ (ys : List ℕ). number_at ys j) is ∙ elim (cases_lt j n) [
  | inl before ↦ get_or_append_left xs (v ∷ []) 0 j (omega (arith, before, count)) ∙ old j before
  | inr on ↦
      let at : j ≡ length xs = omega (arith, low, on, count) in
      ap (λ (i : ℕ). number_at (xs ++ v ∷ []) i) at ∙ get_or-append_seam xs v [] 0 ∙ last ∙ ap f (sym count ∙ sym at)
]

pub sizes_more : (r : Relation) (ones : List ℕ) (by_set new : List (List ℕ)) (sizes : List ℕ) (n : ℕ) → length by_set ≡ n → new ≡ by_set ++ sizes ∷ []
    → ((k : ℕ) → k < n → AreSizes r ones (attributes (set_of k)) (slice_index_or by_set k [])) → AreSizes r ones (attributes (set_of n)) sizes
    → (k : ℕ) → k < n + 1 → AreSizes r ones (attributes (set_of k)) (slice_index_or new k [])
sizes_more r ones by_set new sizes n count is old last k low =
    subst (λ (sets : List (List ℕ)). AreSizes r ones (attributes (set_of k)) (slice_index_or sets k [])) (sym is) (elim (cases_lt k n) [
      | inl before ↦ subst (AreSizes r ones (attributes (set_of k))) (sym (get_or_append_left by_set (sizes ∷ []) [] k (omega (arith, before, count)))) (old k before)
      | inr on ↦
          let at : n ≡ k = omega (arith, low, on) in
          let end : length by_set ≡ k = count ∙ at in
          subst (λ (i : ℕ). AreSizes r ones (attributes (set_of i)) (slice_index_or (by_set ++ sizes ∷ []) i [])) at
          (subst (λ (i : ℕ). AreSizes r ones (attributes (set_of n)) (slice_index_or (by_set ++ sizes ∷ []) i [])) count
          (subst (AreSizes r ones (attributes (set_of n))) (sym (get_or-append_seam by_set sizes [] [])) last))
    ])
