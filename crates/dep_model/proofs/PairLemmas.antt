-- What holds of the pairs of a list: of each element with each later one.
use Rattle.std.proofs.Common.{zero, suc, List, [], ◌∷◌, ◌++◌, get_or, map, subst, inl, inr, arith}
use Rattle.std.specs.Prelude.{AllPairs, Contains}
use Rattle.std.proofs.lemmas.List.Elements.{Contains-append_cases, Contains-get_or}
use Rattle.dep_model.proofs.ListLemmas.{Contains-head, Contains-later, map-member}

pub no_pairs : {X : Type 0} (R : X → X → Type 0) → AllPairs R []
no_pairs R i j d before l = absurd (omega (arith, l))

pub all_pairs_cons : {X : Type 0} (R : X → X → Type 0) (x : X) (xs : List X) → ((y : X) → Contains xs y → R x y) → AllPairs R xs → AllPairs R (x ∷ xs)
all_pairs_cons R x xs first later i zero d lt l = absurd (omega arith)
all_pairs_cons R x xs first later zero (suc j) d lt l = first (get_or xs j d) (Contains-get_or xs j d (omega (arith, l)))
all_pairs_cons R x xs first later (suc i) (suc j) d lt l = later i j d (omega arith) (omega (arith, l))

pub first_pairs : {X : Type 0} (R : X → X → Type 0) (x : X) (xs : List X) (y : X) → AllPairs R (x ∷ xs) → Contains xs y → R x y
first_pairs R x xs y pairs listed =
    subst (λ z. R x z) listed.2 (pairs 0 (suc listed.0) y (omega arith) (omega (arith, listed.1)))

pub later_pairs : {X : Type 0} (R : X → X → Type 0) (x : X) (xs : List X) → AllPairs R (x ∷ xs) → AllPairs R xs
later_pairs R x xs pairs i j d before l = pairs (suc i) (suc j) d (omega (arith, before)) (omega (arith, l))

-- of two lists, one after the other, where it also holds from each element of the one to each of the other
pub pairs_append : {X : Type 0} (R : X → X → Type 0) (xs ys : List X) → AllPairs R xs → AllPairs R ys
    → ((x y : X) → Contains xs x → Contains ys y → R x y) → AllPairs R (xs ++ ys)
pairs_append R [] ys first second across = second
pairs_append R (x ∷ xs) ys first second across =
    all_pairs_cons R x (xs ++ ys)
    (λ y listed. elim (Contains-append_cases xs ys y listed) [
      | inl here ↦ first_pairs R x xs y first here
      | inr there ↦ across x y (Contains-head x xs) there
    ])
    (pairs_append R xs ys (later_pairs R x xs first) second (λ z y here there. across z y (Contains-later x xs z here) there))

-- of a function's values, where it holds of what they are the values of
pub pairs_map : {X Y : Type 0} (R : Y → Y → Type 0) (f : X → Y) (xs : List X) → AllPairs (λ x y. R (f x) (f y)) xs → AllPairs R (map f xs)
pairs_map R f [] pairs = no_pairs R
pairs_map {X} {Y} R f (x ∷ xs) pairs =
    all_pairs_cons R (f x) (map f xs)
    (λ z listed.
    let (y, within, is) = map-member f xs z listed in
    subst (λ (w : Y). R (f x) w) is (first_pairs (λ (v w : X). R (f v) (f w)) x xs y pairs within))
    (pairs_map R f xs (later_pairs (λ (v w : X). R (f v) (f w)) x xs pairs))
