-- The rows of a tableau in order.
use Rattle.std.proofs.Common.{◌≡◌, ℕ, ◌+◌, ◌-◌, ◌<◌, ◌≤◌, suc, false, List, [], ◌∷◌, ◌++◌, length, map, take, drop, get_or, refl, sym, ap, subst, ◌∙◌, inl, inr, arith, length-append, Vec, Global}
use Rattle.std.proofs.lemmas.Bool.{cases_lt, cases_eq, true≢false}
use Rattle.std.proofs.lemmas.Cmp.{nat_list_cmp_total}
use Rattle.std.proofs.lemmas.Map.Lookups.{exact_bytes}
use Rattle.std.proofs.lemmas.List.{get_or-map, length-map, get_or-take, get_or-drop, length-take-le, length-drop, get_or_default}
use Rattle.std.proofs.lemmas.List.Elements.{Contains-get_or, Contains-append_left, Contains-append_right}
use Rattle.std.proofs.lemmas.List.Sorted.{sorted_far, ranks_by, IsPermutation-map, Contains-permutation, IsPermutation-sym, length_permutation}
use Rattle.std.specs.Prelude.{Contains, AllPairs, decimal}
use Rattle.std.specs.Ordering.{nat_cmp, is_lt, ordering_reverse}
use Rattle.std.specs.declared.cmp.Ordering.{Ordering}
use Rattle.std.specs.declared.cmp.Ordering.TheVariants.{Less, Equal, Greater}
use Rattle.std.specs.Cmp.Lexicographic.{slice_cmp}
use Rattle.std.specs.List.Sorted.{IsPermutation, IsSortedBy}
use Rattle.dep_model.specs.Tuples.{Relation}
use Rattle.chase_laws.specs.Tableaux.{SymbolRow, Tableau}
use Rattle.chase_laws.specs.Answers.{texts_of}
use Rattle.chase_laws.proofs.RoundLemmas.{differ_le}
use Rattle.tableau_chase.specs.Texts.{AreTextsOf}

-- ---- different rows in another order differ
-- all rows stand elsewhere than at position j too, where the row there stands before
Contains-drop_repeated : (s : Tableau) (i j : ℕ) (row : SymbolRow) → i < j → j < length s → ((d : SymbolRow) → get_or s i d ≡ get_or s j d) → Contains s row → Contains (take j s ++ drop (suc j) s) row
Contains-drop_repeated s i j row lt low equal h = elim (cases_eq h.0 j) [
  | inl here ↦
      let in_take : i < length (take j s) = omega (arith, lt, length-take-le j s (omega (arith, low))) in
      let is : get_or (take j s) i row ≡ row = get_or-take j s i row lt ∙ equal row ∙ ap (λ (k : ℕ). get_or s k row) (sym here) ∙ h.2 in
      Contains-append_left (take j s) (drop (suc j) s) row (i, in_take, is)
  | inr other ↦ elim (cases_lt h.0 j) [
    | inl before ↦
        let in_take : h.0 < length (take j s) = omega (arith, before, length-take-le j s (omega (arith, low))) in
        Contains-append_left (take j s) (drop (suc j) s) row (h.0, in_take, get_or-take j s h.0 row before ∙ h.2)
    | inr after ↦
        let k = h.0 - suc j in
        let position : suc j + k ≡ h.0 = omega (arith, after, other) in
        let in_drop : k < length (drop (suc j) s) = omega (arith, length-drop (suc j) s, h.1, position) in
        Contains-append_right (take j s) (drop (suc j) s) row (k, in_drop, get_or-drop (suc j) s k row ∙ ap (λ (m : ℕ). get_or s m row) position ∙ h.2)
  ]
]

pub tight_differ : (rows s : Tableau) → AllPairs (λ p q. p ≡ q → ⊥) rows → ((row : SymbolRow) → Contains rows row → Contains s row) → length s ≤ length rows → (i j : ℕ) → i < j → j < length s → ((d : SymbolRow) → get_or s i d ≡ get_or s j d) → ⊥
tight_differ rows s differ within tight i j lt low equal =
    let le = differ_le rows (take j s ++ drop (suc j) s) differ (λ (k : ℕ) (d : SymbolRow) l. Contains-drop_repeated s i j (get_or rows k d) lt low equal (within (get_or rows k d) (Contains-get_or rows k d l))) in
    absurd (omega (arith, le, tight, length-append (take j s) (drop (suc j) s), length-take-le j s (omega (arith, low)), length-drop (suc j) s, low))

-- ---- the order
less_from : (p q : SymbolRow) (o : Ordering) → o ≡ slice_cmp nat_cmp p q → is_lt (slice_cmp nat_cmp q p) ≡ false → (p ≡ q → ⊥) → o ≡ Less
less_from p q Less e above differ = refl
less_from p q Equal e above differ = absurd (differ (exact_bytes p q (sym e)))
less_from p q Greater e above differ =
    let back : slice_cmp nat_cmp q p ≡ Less = nat_list_cmp_total.antisymm q p ∙ ap ordering_reverse (sym e) in
    absurd (true≢false (sym (ap is_lt back) ∙ above))

-- some list that stands there
sorted_at : (lists : List (Vec ℕ Global)) (k : ℕ) → k < length lists → Vec ℕ Global
sorted_at [] k l = absurd (omega arith)
sorted_at (list ∷ lists) k l = list

map_both : (lists : List (Vec ℕ Global)) → map (λ (list : Vec ℕ Global). map decimal list.items) lists ≡ texts_of (map (λ (list : Vec ℕ Global). list.items) lists)
map_both [] = refl
map_both (list ∷ lists) = ap (λ (rest : Relation). map decimal list.items ∷ rest) (map_both lists)

pub texts_sorted : (rows : Tableau) (lists sorted : List (Vec ℕ Global)) (texts : Relation) → AllPairs (λ p q. p ≡ q → ⊥) rows → map (λ (list : Vec ℕ Global). list.items) lists ≡ rows → IsPermutation lists sorted
    → IsSortedBy (λ (x y : Vec ℕ Global). is_lt (slice_cmp nat_cmp x.items y.items)) sorted → texts ≡ map (λ (list : Vec ℕ Global). map decimal list.items) sorted → AreTextsOf rows texts
texts_sorted rows lists sorted texts differ rows_are permutation up texts_are =
    let key : Vec ℕ Global → List ℕ = λ (list : Vec ℕ Global). list.items in
    let symbols = map key sorted in
    let moved : IsPermutation rows symbols = subst (λ (t : Tableau). IsPermutation t symbols) rows_are (IsPermutation-map key lists sorted permutation) in
    let count : length symbols ≡ length rows = length_permutation rows symbols moved in
    record {
      symbols = symbols;
      same = λ row. ((λ h. Contains-permutation rows symbols row moved h), (λ h. Contains-permutation symbols rows row (IsPermutation-sym rows symbols moved) h));
      count = count;
      ascending = λ i j d lt low.
          let short : j < length sorted = omega (arith, low, length-map sorted key) in
          let e : Vec ℕ Global = sorted_at sorted j short in
          let i_is : get_or symbols i d ≡ (get_or sorted i e).items = get_or-map key sorted i e d (omega (arith, lt, short)) in
          let j_is : get_or symbols j d ≡ (get_or sorted j e).items = get_or-map key sorted j e d short in
          let above : is_lt (slice_cmp nat_cmp (get_or sorted j e).items (get_or sorted i e).items) ≡ false = sorted_far (λ (x y : Vec ℕ Global). is_lt (slice_cmp nat_cmp x.items y.items)) (ranks_by nat_list_cmp_total key) sorted up i j e (omega (arith, lt)) short in
          let apart : get_or symbols i d ≡ get_or symbols j d → ⊥ = λ equal. tight_differ rows symbols differ (λ row h. Contains-permutation rows symbols row moved h) (omega (arith, count)) i j lt low
          (λ (f : SymbolRow). get_or_default symbols i f d (omega (arith, lt, low)) ∙ equal ∙ get_or_default symbols j d f low) in
          less_from (get_or symbols i d) (get_or symbols j d) (slice_cmp nat_cmp (get_or symbols i d) (get_or symbols j d)) refl
          (subst (λ (p : SymbolRow). is_lt (slice_cmp nat_cmp (get_or symbols j d) p) ≡ false) (sym i_is) (subst (λ (q : SymbolRow). is_lt (slice_cmp nat_cmp q (get_or sorted i e).items) ≡ false) (sym j_is) above)) apart;
      texts = texts_are ∙ map_both sorted;
    }
