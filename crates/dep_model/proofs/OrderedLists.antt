-- Two lists in order with the same elements are equal, and one that lies within another is no longer.
use Rattle.std.proofs.Common.{◌≡◌, ◌≤◌, List, [], ◌∷◌, length, refl, sym, subst, ap, ◌∙◌, ⊎_elim, arith}
use Rattle.std.specs.Prelude.{All, AllPairs, Any, Contains, map}
use Rattle.std.proofs.lemmas.List.Elements.{All-head, All-tail}
use Rattle.dep_model.proofs.ListLemmas.{Contains-nil, Contains-head, Contains-later, Contains-cases, Contains-map}
use Rattle.dep_model.proofs.PairLemmas.{first_pairs, later_pairs}

-- each element of a list is in another
abbrev pub HoldsAll : {X : Type 0} → List X → List X → Type 0
HoldsAll {X} xs ys = (z : X) → Contains xs z → Contains ys z

-- no two elements with a property come before each other
abbrev pub IsOneWay : {X : Type 0} → (X → Type 0) → (X → X → Type 0) → Type 0
IsOneWay {X} P R = (x y : X) → P x → P y → R x y → R y x → ⊥

-- what is not the first is later
later_held : {X : Type 0} (P : X → Type 0) (R : X → X → Type 0) (x : X) (xs ys : List X) → IsOneWay P R → P x
    → AllPairs R (x ∷ xs) → HoldsAll (x ∷ xs) (x ∷ ys) → HoldsAll xs ys
later_held {X} P R x xs ys one_way is ordered held z has = ⊎_elim
    (λ same. let twice : R x x = subst (λ (y : X). R x y) same (first_pairs R x xs z ordered
    has) in absurd (one_way x x is is twice twice))
    (λ later. later)
    (Contains-cases x ys z (held z (Contains-later x xs z has)))

-- the first elements are the same
first_same : {X : Type 0} (P : X → Type 0) (R : X → X → Type 0) (x y : X) (xs ys : List X) → IsOneWay P R → P x → P y
    → AllPairs R (x ∷ xs) → AllPairs R (y ∷ ys) → HoldsAll (x ∷ xs) (y ∷ ys) → HoldsAll (y ∷ ys) (x ∷ xs) → x ≡ y
first_same P R x y xs ys one_way x_is y_is x_first y_first there back = ⊎_elim
    (λ same. same)
    (λ x_later. ⊎_elim
    (λ same. sym same)
    (λ y_later. absurd (one_way x y x_is y_is (first_pairs R x xs y x_first y_later)
    (first_pairs R y ys x y_first x_later)))
    (Contains-cases x xs y (back y (Contains-head y ys))))
    (Contains-cases y ys x (there x (Contains-head x xs)))

pub one_ordered_list : {X : Type 0} (P : X → Type 0) (R : X → X → Type 0) (xs ys : List X)
    → IsOneWay P R → All P xs → All P ys
    → AllPairs R xs → AllPairs R ys → HoldsAll xs ys → HoldsAll ys xs → xs ≡ ys
one_ordered_list P R [] [] one_way first second one other there back = refl
one_ordered_list P R [] (y ∷ ys) one_way first second one other there back =
    absurd (Contains-nil y (back y (Contains-head y ys)))
one_ordered_list P R (x ∷ xs) [] one_way first second one other there back =
    absurd (Contains-nil x (there x (Contains-head x xs)))
one_ordered_list {X} P R (x ∷ xs) (y ∷ ys) one_way first second one other there back =
    let same : x ≡ y =
    first_same P R x y xs ys one_way (All-head P x xs first) (All-head P y ys second) one other
    there back in
    let to_x : y ∷ ys ≡ x ∷ ys = ap (λ (z : X). z ∷ ys) (sym same) in
    let other_x : AllPairs R (x ∷ ys) = subst (λ (zs : List X). AllPairs R zs) to_x other in
    let there_x : HoldsAll (x ∷ xs) (x ∷ ys) = subst (λ (zs : List X). HoldsAll (x ∷ xs) zs) to_x there in
    let back_x : HoldsAll (x ∷ ys) (x ∷ xs) = subst (λ (zs : List X). HoldsAll zs (x ∷ xs)) to_x back in
    ap (λ (zs : List X). x ∷ zs)
    (one_ordered_list P R xs ys one_way (All-tail P x xs first) (All-tail P y ys second)
    (later_pairs R x xs one) (later_pairs R x ys other_x)
    (later_held P R x xs ys one_way (All-head P x xs first) one there_x)
    (later_held P R x ys xs one_way (All-head P x xs first) other_x back_x))
    ∙ sym to_x

-- ---- lengths
-- all that comes after an element that comes after the first of another list lies later there
later_there : {X : Type 0} (P : X → Type 0) (R : X → X → Type 0) (x y : X) (xs ys : List X) → IsOneWay P R → P x → P y
    → AllPairs R (x ∷ xs) → AllPairs R (y ∷ ys) → Contains ys x → HoldsAll (x ∷ xs) (y ∷ ys) → HoldsAll (x ∷ xs) ys
later_there {X} P R x y xs ys one_way x_is y_is x_first y_first has held z at = ⊎_elim
    (λ same. subst (λ (w : X). Contains ys w) (sym same) has)
    (λ later. ⊎_elim
    (λ same. absurd (one_way x y x_is y_is
    (subst (λ (w : X). R x w) same (first_pairs R x xs z x_first later))
    (first_pairs R y ys x y_first has)))
    (λ there. there)
    (Contains-cases y ys z (held z at)))
    (Contains-cases x xs z at)

pub no_longer : {X : Type 0} (P : X → Type 0) (R : X → X → Type 0) (xs ys : List X) → IsOneWay P R → All P xs → All P ys
    → AllPairs R xs → AllPairs R ys → HoldsAll xs ys → length xs ≤ length ys
no_longer P R [] ys one_way first second one other held = omega arith
no_longer P R (x ∷ xs) [] one_way first second one other held = absurd (Contains-nil x (held x (Contains-head x xs)))
no_longer {X} P R (x ∷ xs) (y ∷ ys) one_way first second one other held = ⊎_elim
    (λ same.
    let from_x : y ∷ ys ≡ x ∷ ys = ap (λ (z : X). z ∷ ys) (sym same) in
    let held_x : HoldsAll (x ∷ xs) (x ∷ ys) = subst (λ (zs : List X). HoldsAll (x ∷ xs) zs) from_x held in
    let rest =
    no_longer P R xs ys one_way (All-tail P x xs first) (All-tail P y ys second)
    (later_pairs R x xs one) (later_pairs R y ys other)
    (later_held P R x xs ys one_way (All-head P x xs first) one held_x) in omega (arith, rest))
    (λ later.
    let rest = no_longer P R (x ∷ xs) ys one_way first (All-tail P y ys second) one (later_pairs R y ys other)
    (later_there P R x y xs ys one_way (All-head P x xs first) (All-head P y ys second) one other
    later held) in omega (arith, rest))
    (Contains-cases y ys x (held x (Contains-head x xs)))

-- ---- lists of images
-- some element of a list has this image
pub Any-image : {X Y : Type 0} (f : X → Y) (xs : List X) (y : Y) → Any (λ x. f x ≡ y) xs → Contains (map f xs) y
Any-image {X} {Y} f xs y found =
    subst (λ (z : Y). Contains (map f xs) z) found.4
    (Contains-map f xs found.1 (found.0, found.2, found.3))
