-- What lists of sets keep where they are put in another order: that some set is such, and that any two differ.
use Rattle.std.proofs.Common.{◌≡◌, ℕ, ◌<◌, ◌⊎◌, List, length, get_or, map, refl, sym, subst, ap, ◌∙◌, ⊎_elim, inl, inr, arith}
use Rattle.std.proofs.lemmas.Bool.{cases_eq, cases_order}
use Rattle.std.proofs.lemmas.List.{length-map, get_or-map}
use Rattle.std.proofs.lemmas.List.Edits.{swapped_from_swap, length-swap}
use Rattle.std.proofs.lemmas.List.Sorted.{IsPermutation-keeps, Contains-permutation}
use Rattle.std.specs.Prelude.{AllPairs, Any}
use Rattle.std.specs.List.{swap}
use Rattle.std.specs.List.Sorted.{IsPermutation}
use Rattle.attr_sets.specs.Attributes.{Attributes}
use Rattle.attr_sets.specs.Sets.{attributes}
use Rattle.attr_sets.specs.declared.set.AttrSet.{AttrSet}

pub Any-map : (P : Attributes → Type 0) (xs : List AttrSet) → Any (λ (x : AttrSet). P (attributes x)) xs → Any P (map attributes xs)
Any-map P xs h =
    let short : h.0 < length (map attributes xs) = omega (arith, h.2, length-map xs attributes) in
    (h.0, attributes h.1, short, get_or-map attributes xs h.0 h.1 (attributes h.1) h.2 ∙ ap attributes h.3, h.4)

pub Any-permutation : {X : Type 0} (P : X → Type 0) (xs ys : List X) → IsPermutation xs ys → Any P xs → Any P ys
Any-permutation P xs ys moved h =
    let at = Contains-permutation xs ys h.1 moved (h.0, h.2, h.3) in
    (at.0, h.1, at.1, at.2, h.4)

-- a relation that goes both ways holds at any two positions
pairs_apart : {X : Type 0} (R : X → X → Type 0) → ((x y : X) → R x y → R y x) → (xs : List X) → AllPairs R xs → (i j : ℕ) (d : X) → (i ≡ j → ⊥) → i < length xs → j < length xs → R (get_or xs i d) (get_or xs j d)
pairs_apart R back xs all i j d other i_in j_in =
    ⊎_elim
    (λ (same : i ≡ j). absurd (other same))
    (⊎_elim
    (λ (before : i < j). all i j d before j_in)
    (λ (after : j < i). back (get_or xs j d) (get_or xs i d) (all j i d after i_in)))
    (cases_order i j)

-- and is kept where two elements change their positions
module _ {X : Type 0} (R : X → X → Type 0) (back : (x y : X) → R x y → R y x) (xs : List X) (a b : ℕ) (a_in : a < length xs) (b_in : b < length xs) (all : AllPairs R xs) where
  -- the position from which an element came
  came : (p : ℕ) (d : X) → p < length xs → (q : ℕ) × (q < length xs) × (get_or (swap xs a b) p d ≡ get_or xs q d) × (((p ≡ a) × (q ≡ b)) ⊎ (((p ≡ a → ⊥) × (p ≡ b) × (q ≡ a)) ⊎ ((p ≡ a → ⊥) × (p ≡ b → ⊥) × (q ≡ p))))
  came p d p_in =
      let moved = swapped_from_swap xs (swap xs a b) a b d a_in b_in refl in
      ⊎_elim
      (λ (first : p ≡ a). (b, b_in, ap (λ (m : ℕ). get_or (swap xs a b) m d) first ∙ moved.0, inl (first, refl)))
      (λ (not_first : p ≡ a → ⊥). ⊎_elim
      (λ (second : p ≡ b). (a, a_in, ap (λ (m : ℕ). get_or (swap xs a b) m d) second ∙ moved.1, inr (inl (not_first, second, refl))))
      (λ (not_second : p ≡ b → ⊥). (p, p_in, moved.2 p not_first not_second, inr (inr (not_first, not_second, refl))))
      (cases_eq p b))
      (cases_eq p a)

  swap_pairs : AllPairs R (swap xs a b)
  swap_pairs i j d before j_in =
      let long : length (swap xs a b) ≡ length xs = length-swap xs a b in
      let i_from = came i d (omega (arith, before, j_in, long)) in
      let j_from = came j d (omega (arith, j_in, long)) in
      let other : i_from.0 ≡ j_from.0 → ⊥ = λ same. absurd (grind (arith, same, i_from.3, j_from.3, before)) in
      subst (λ (x : X). R x (get_or (swap xs a b) j d)) (sym i_from.2) (subst (λ (y : X). R (get_or xs i_from.0 d) y) (sym j_from.2)
      (pairs_apart R back xs all i_from.0 j_from.0 d other i_from.1 j_from.1))

pub AllPairs-permutation : {X : Type 0} (R : X → X → Type 0) → ((x y : X) → R x y → R y x) → (xs ys : List X) → IsPermutation xs ys → AllPairs R xs → AllPairs R ys
AllPairs-permutation R back xs ys moved all =
    IsPermutation-keeps xs (λ l. AllPairs R l) all (λ l i j i_in j_in before. swap_pairs R back l i j i_in j_in before) ys moved
