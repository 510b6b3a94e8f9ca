-- How long lists of different sets can be: no longer than a list that has all of them, and for sets of n
-- columns no longer than there are such sets.
use Rattle.std.proofs.Common.{inl, inr, ◌≡◌, ◌≢◌, ◌^◌, ◌<◌, ◌≤◌, ℕ, zero, suc, true, List, [], ◌∷◌, ◌++◌, length, map, get_or, remove, nat_lt, refl, sym, ap, subst, ◌∙◌, pow-suc, length-append, arith}
use mathlib.Core.Path.{fun_ext}
use Rattle.std.specs.Prelude.{AllPairs, Contains}
use Rattle.std.proofs.lemmas.Bool.{cases_Bool, cases_eq, false≢true, lt-ltb, ltb-true, true≢false}
use Rattle.std.proofs.lemmas.Bool.Decides.{nat_tests}
use Rattle.std.proofs.lemmas.Grind.{in_remove}
use Rattle.std.proofs.lemmas.List.{get_or_default, length-map}
use Rattle.std.proofs.lemmas.List.Edits.{length-remove}
use Rattle.std.proofs.lemmas.List.Elements.{All-contains, Contains-append_left, Contains-append_right}
use Rattle.attr_sets.specs.Attributes.{Attributes, IsSubset, below, difference, none, only, union}
use Rattle.attr_sets.proofs.AttributesLemmas.{same_from_within}
use Rattle.dep_model.specs.Tuples.{Relation}
use Rattle.dep_model.proofs.ListLemmas.{Contains-head, Contains-later, Contains-map}
use Rattle.dep_model.proofs.PairLemmas.{first_pairs, later_pairs}
use Rattle.candidate_sets.specs.Evidence.{AreEvidence, IsEvidence, room}
use Rattle.candidate_sets.specs.Standing.{AreCandidates, HasMoreCandidates, IsCandidate}

-- ---- different elements of a list
-- what another list has of them, it has beside any one of them
left_without : {X : Type 0} (x : X) (ys : List X) (y : X) (has : Contains ys x) → x ≢ y → Contains ys y
    → Contains (remove ys has.0) y
left_without x ys y has apart listed = (in_remove ys has.0 listed.0 y has.1 listed.1 (sym listed.2) other).1
  where
    other : listed.0 ≢ has.0
    other same = apart (sym has.2 ∙ get_or_default ys has.0 x y has.1 ∙ ap (λ (i : ℕ). get_or ys i y) (sym same)
        ∙ listed.2)

pub different_no_longer : {X : Type 0} (xs ys : List X) → AllPairs (λ (a b : X). a ≢ b) xs
    → ((x : X) → Contains xs x → Contains ys x) → length xs ≤ length ys
different_no_longer [] ys differ held = omega arith
different_no_longer {X} (x ∷ xs) ys differ held =
    let has : Contains ys x = held x (Contains-head x xs) in
    let rest = different_no_longer xs (remove ys has.0) (later_pairs (λ (a b : X). a ≢ b) x xs differ)
    (λ y listed. left_without x ys y has (first_pairs (λ (a b : X). a ≢ b) x xs y differ listed) (held y (Contains-later x xs y listed))) in
    omega (arith, rest, length-remove ys has.0 has.1)

-- where all candidates are listed there are no more than the list has
pub more_listed : (n most : ℕ) (es : List Attributes) (a m : ℕ) (xs : List Attributes)
    → AreCandidates n most es a xs → HasMoreCandidates n most es a m → m < length xs
more_listed n most es a m xs are has =
    let short : length has.sets ≤ length xs = different_no_longer has.sets xs has.differ
    (λ x listed. are.all x (All-contains (IsCandidate n most es a) has.sets x has.each listed)) in
    omega (arith, short, has.more)

-- ---- the sets of n columns
abbrev pub subsets : ℕ → List Attributes
subsets zero = none ∷ []
subsets (suc n) = subsets n ++ map (λ (x : Attributes). union x (only n)) (subsets n)

pub length-subsets : (n : ℕ) → length (subsets n) ≡ 2 ^ n
length-subsets zero = refl
length-subsets (suc n) =
    let more : Attributes → Attributes = λ (x : Attributes). union x (only n) in
    omega (
      arith,
      length-append (subsets n) (map more (subsets n)),
      length-map (subsets n) more,
      length-subsets n,
      pow-suc 2 n,
    )

pub subset_listed : (n : ℕ) (x : Attributes) → IsSubset x (below n) → Contains (subsets n) x
subset_listed zero x low =
    subst (λ (y : Attributes). Contains (none ∷ []) y) (same_from_within none x (λ k m. absurd (false≢true m))
    (λ k m. absurd (no_less k (low k m)))) (Contains-head none [])
  where
    no_less : (k : ℕ) → nat_lt k 0 ≡ true → ⊥
    no_less k h = omega (arith, ltb-true k 0 h)
subset_listed (suc n) x low = elim (cases_Bool (x n)) [
  | inr out ↦ Contains-append_left (subsets n) (map (λ (z : Attributes). union z (only n)) (subsets n)) x
      (subset_listed n x (λ k m. lower k (λ same. true≢false (sym m ∙ ap x same ∙ out)) (low k m)))
  | inl member ↦
      let rest : Attributes = difference x (only n) in
      let is : union rest (only n) ≡ x = fun_ext (λ k. with_last k member) in
      subst (λ (y : Attributes). Contains (subsets n ++ map (λ (z : Attributes). union z (only n)) (subsets n)) y) is
      (Contains-append_right (subsets n) (map (λ (z : Attributes). union z (only n)) (subsets n)) (union rest (only n))
      (Contains-map (λ (z : Attributes). union z (only n)) (subsets n) rest (subset_listed n rest rest_low)))
]
  where
    lower : (k : ℕ) → (k ≡ n → ⊥) → nat_lt k (suc n) ≡ true → nat_lt k n ≡ true
    lower k other h = lt-ltb k n (omega (arith, ltb-true k (suc n) h, other))

    with_last : (k : ℕ) → x n ≡ true → union (difference x (only n)) (only n) k ≡ x k
    with_last k member = elim (cases_eq k n) [
      | inl same ↦ grind (arith, nat_tests, same, ap x same, member)
      | inr other ↦ grind (arith, nat_tests, other)
    ]

    rest_low : IsSubset (difference x (only n)) (below n)
    rest_low k m = lower k (λ same. not_last k same m) (low k (of_x k m))
      where
        not_last : (k : ℕ) → k ≡ n → difference x (only n) k ≡ true → ⊥
        not_last k same h = grind (arith, nat_tests, same, h)

        of_x : (k : ℕ) → difference x (only n) k ≡ true → x k ≡ true
        of_x k h = grind (arith, h)

-- with each new evidence there is less room
pub less_room : (n : ℕ) (r : Relation) (es : List Attributes) (e : Attributes) → AreEvidence n r (e ∷ es)
    → AllPairs (λ (x y : Attributes). x ≢ y) (e ∷ es) → room n (e ∷ es) < room n es
less_room n r es e are differ =
    let short : length (e ∷ es) ≤ length (subsets n) = different_no_longer (e ∷ es) (subsets n) differ
    (λ x listed. subset_listed n x (within x (All-contains (IsEvidence n r) (e ∷ es) x are listed))) in
    omega (arith, short, length-subsets n)
  where
    within : (x : Attributes) → IsEvidence n r x → IsSubset x (below n)
    within x is = is.within
