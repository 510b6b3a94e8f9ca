-- Facts of each element of lists that are joined or paired.
use Rattle.std.proofs.Common.{◌≡◌, List, [], ◌∷◌, ◌++◌, length, refl, ap, sym, ◌∙◌, subst, arith}
use Rattle.std.proofs.lemmas.List.Elements.{All-nil, All-cons, All-head, All-tail, All-append}
use Rattle.std.specs.Prelude.{All}
use Rattle.std.specs.List.{AllZip, flat_map}
use Rattle.dep_model.proofs.ListLemmas.{cons_parts}

pub All-left : {X : Type 0} (P : X → Type 0) (xs ys : List X) → All P (xs ++ ys) → All P xs
All-left P [] ys h = All-nil P
All-left P (x ∷ xs) ys h = All-cons P x xs (All-head P x (xs ++ ys) h) (All-left P xs ys (All-tail P x (xs ++ ys) h))

pub All-right : {X : Type 0} (P : X → Type 0) (xs ys : List X) → All P (xs ++ ys) → All P ys
All-right P [] ys h = h
All-right P (x ∷ xs) ys h = All-right P xs ys (All-tail P x (xs ++ ys) h)

pub All-flat_map-to : {X Y : Type 0} (P : Y → Type 0) (f : X → List Y) (xs : List X) → All P (flat_map f xs) → All (λ (x : X). All P (f x)) xs
All-flat_map-to {X = X} P f [] h = All-nil (λ (x : X). All P (f x))
All-flat_map-to {X = X} P f (x ∷ xs) h =
    All-cons (λ (y : X). All P (f y)) x xs (All-left P (f x) (flat_map f xs) h) (All-flat_map-to P f xs (All-right P (f x) (flat_map f xs) h))

pub All-flat_map-from : {X Y : Type 0} (P : Y → Type 0) (f : X → List Y) (xs : List X) → All (λ (x : X). All P (f x)) xs → All P (flat_map f xs)
All-flat_map-from P f [] h = All-nil P
All-flat_map-from {X = X} P f (x ∷ xs) h =
    All-append P (f x) (flat_map f xs) (All-head (λ (y : X). All P (f y)) x xs h) (All-flat_map-from P f xs (All-tail (λ (y : X). All P (f y)) x xs h))

-- what pairs with each of a list is such, and back
pub AllZip-to : {X Y : Type 0} (R : X → Y → Type 0) (P : X → Type 0) (Q : Y → Type 0) (xs : List X) (ys : List Y)
    → ((x : X) (y : Y) → R x y → P x → Q y) → AllZip R xs ys → All P xs → All Q ys
AllZip-to R P Q [] [] gives zip all = All-nil Q
AllZip-to R P Q [] (y ∷ ys) gives zip all = absurd zip
AllZip-to R P Q (x ∷ xs) [] gives zip all = absurd zip
AllZip-to R P Q (x ∷ xs) (y ∷ ys) gives zip all =
    All-cons Q y ys (gives x y zip.0 (All-head P x xs all)) (AllZip-to R P Q xs ys gives zip.1 (All-tail P x xs all))

pub AllZip-from : {X Y : Type 0} (R : X → Y → Type 0) (P : X → Type 0) (Q : Y → Type 0) (xs : List X) (ys : List Y)
    → ((x : X) (y : Y) → R x y → Q y → P x) → AllZip R xs ys → All Q ys → All P xs
AllZip-from R P Q [] [] gives zip all = All-nil P
AllZip-from R P Q [] (y ∷ ys) gives zip all = absurd zip
AllZip-from R P Q (x ∷ xs) [] gives zip all = absurd zip
AllZip-from R P Q (x ∷ xs) (y ∷ ys) gives zip all =
    All-cons P x xs (gives x y zip.0 (All-head Q y ys all)) (AllZip-from R P Q xs ys gives zip.1 (All-tail Q y ys all))

pub nil_not_cons : {X : Type 0} (x : X) (xs : List X) → [] ≡ x ∷ xs → ⊥
nil_not_cons {X = X} x xs same = absurd (omega (arith, ap (λ (l : List X). length l) same))

-- no list with a middle element is empty
pub nil_not_split : {X : Type 0} (xs : List X) (y : X) (ys : List X) → [] ≡ xs ++ y ∷ ys → ⊥
nil_not_split [] y ys same = nil_not_cons y ys same
nil_not_split (x ∷ xs) y ys same = nil_not_cons x (xs ++ y ∷ ys) same

-- an element beyond those of the first of two joined lists stands in the second
pub split_later : {X : Type 0} (P : X → Type 0) (xs ys before after : List X) (y : X) → All P xs → (P y → ⊥) → xs ++ ys ≡ before ++ y ∷ after
    → (middle : List X) × (before ≡ xs ++ middle) × (ys ≡ middle ++ y ∷ after)
split_later P [] ys before after y all other same = (before, refl, same)
split_later P (x ∷ xs) ys [] after y all other same =
    absurd (other (subst P (cons_parts x y (xs ++ ys) after same).0 (All-head P x xs all)))
split_later {X = X} P (x ∷ xs) ys (b ∷ before) after y all other same =
    let parts = cons_parts x b (xs ++ ys) (before ++ y ∷ after) same in
    let rest = split_later P xs ys before after y (All-tail P x xs all) other parts.1 in
    (rest.0, ap (λ (e : X). e ∷ before) (sym parts.0) ∙ ap (λ (l : List X). x ∷ l) rest.1, rest.2)
