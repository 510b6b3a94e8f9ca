-- Membership in lists, in the list of a function's values, and in lists that are joined; and numbers in a row.
use Rattle.std.proofs.Common.{◌≡◌, ℕ, ◌<◌, ◌⊎◌, inl, inr, zero, suc, List, [], ◌∷◌, length, map, get_or, refl, sym, ap, subst, ◌∙◌, arith, ◌++◌, drop, ◌+◌, Some, take, add-one}
use Rattle.std.proofs.Math.ListN.{get_or-map}
use Rattle.std.proofs.lemmas.List.{length-map, length_push, get_or_append_left}
use Rattle.std.specs.Prelude.{All, Contains, Any}
use Rattle.std.specs.List.{flat_map, range_with_len}
use Rattle.std.proofs.lemmas.List.{map-id}
use Rattle.std.proofs.lemmas.List.Elements.{Contains-append_cases, Contains-append_left, Contains-append_right, Contains-get_or}
use Rattle.std.proofs.lemmas.List.FromFn.{map-range_with_len_more}
use Rattle.std.specs.List.{slice_get}
use Rattle.std.proofs.Math.Seq.{take-suc}
use Rattle.std.proofs.lemmas.Option.{slice_get_within, get_or_from_slice_get}

pub Contains-map : {X Y : Type 0} (f : X → Y) (xs : List X) (x : X) → Contains xs x → Contains (map f xs) (f x)
Contains-map f xs x h =
    let short : h.0 < length (map f xs) = omega (arith, h.1, length-map xs f) in
    (h.0, short, get_or-map f xs h.0 x ∙ ap f h.2)

pub Contains-nil : {X : Type 0} (x : X) → Contains {X = X} [] x → ⊥
Contains-nil x h = absurd (omega (arith, h.1))

pub Contains-head : {X : Type 0} (x : X) (xs : List X) → Contains (x ∷ xs) x
Contains-head x xs = (0, omega arith, refl)

pub Contains-later : {X : Type 0} (x : X) (xs : List X) (y : X) → Contains xs y → Contains (x ∷ xs) y
Contains-later x xs y h = (suc h.0, omega (arith, h.1), h.2)

Contains-cases_at : {X : Type 0} (x : X) (xs : List X) (y : X) (k : ℕ) → k < length (x ∷ xs) → get_or (x ∷ xs) k y ≡ y → (y ≡ x) ⊎ Contains xs y
Contains-cases_at x xs y zero l e = inl (sym e)
Contains-cases_at x xs y (suc k) l e = inr (k, omega (arith, l), e)

-- a member is the first or a later one
pub Contains-cases : {X : Type 0} (x : X) (xs : List X) (y : X) → Contains (x ∷ xs) y → (y ≡ x) ⊎ Contains xs y
Contains-cases x xs y h = Contains-cases_at x xs y h.0 h.1 h.2

-- something holds of some member where it holds of one that is named
pub Any-from : {X : Type 0} (P : X → Type 0) (xs : List X) (x : X) → Contains xs x → P x → Any P xs
Any-from P xs x h p = (h.0, x, h.1, h.2, p)

map-member_at : {X Y : Type 0} (f : X → Y) (xs : List X) (y : Y) (k : ℕ) → k < length (map f xs) → get_or (map f xs) k y ≡ y → (x : X) × Contains xs x × (f x ≡ y)
map-member_at f [] y k l e = absurd (omega arith)
map-member_at f (x ∷ xs) y zero l e = (x, (0, omega arith, refl), e)
map-member_at f (x ∷ xs) y (suc k) l e =
    let below : k < length (map f xs) = omega arith in
    let w = map-member_at f xs y k below e in
    (w.0, Contains-later x xs w.0 w.1, w.2)

-- a value of the function stands for some member
pub map-member : {X Y : Type 0} (f : X → Y) (xs : List X) (y : Y) → Contains (map f xs) y → (x : X) × Contains xs x × (f x ≡ y)
map-member f xs y h = map-member_at f xs y h.0 h.1 h.2

pub Any-weaker : {X : Type 0} (P Q : X → Type 0) (xs : List X) → ((x : X) → P x → Q x) → Any P xs → Any Q xs
Any-weaker P Q xs gives h = (h.0, h.1, h.2, h.3, gives h.1 h.4)

pub Any-left : {X : Type 0} (P : X → Type 0) (xs : List X) (y : X) → Any P xs → Any P (xs ++ y ∷ [])
Any-left P xs y h = (h.0, h.1, omega (arith, h.2, length_push xs y), get_or_append_left xs (y ∷ []) h.1 h.0 h.2 ∙ h.3, h.4)

-- two lists with a first element that are the same
pub cons_parts : {X : Type 0} (x y : X) (xs ys : List X) → x ∷ xs ≡ y ∷ ys → (x ≡ y) × (xs ≡ ys)
cons_parts {X = X} x y xs ys same = (ap (λ (l : List X). get_or l 0 x) same, ap (λ (l : List X). drop 1 l) same)

-- the elements before a position and the one that is there
pub take_next : {X : Type 0} (xs : List X) (i : ℕ) (x : X) → slice_get xs i ≡ Some x → take (i + 1) xs ≡ take i xs ++ x ∷ []
take_next xs i x is_x =
    rw add-one
    (take-suc xs i x (slice_get_within xs i x is_x)
    ∙ ap (λ y. take i xs ++ y ∷ []) (get_or_from_slice_get xs i x x is_x))

pub same_default : {X : Type 0} (xs : List X) (i : ℕ) (d e : X) → i < length xs → get_or xs i d ≡ get_or xs i e
same_default [] i d e l = absurd (omega (arith, l))
same_default (x ∷ xs) zero d e l = refl
same_default (x ∷ xs) (suc i) d e l = same_default xs i d e (omega (arith, l))

-- what holds of each member holds of all
pub All-members : {X : Type 0} (P : X → Type 0) (xs : List X) → ((x : X) → Contains xs x → P x) → All P xs
All-members P xs each k d l = each (get_or xs k d) (Contains-get_or xs k d l)

-- ---- lists that are joined
pub flat_map-member : {X Y : Type 0} (f : X → List Y) (xs : List X) (y : Y) → Contains (flat_map f xs) y → (x : X) × Contains xs x × Contains (f x) y
flat_map-member f [] y h = absurd (omega (arith, h.1))
flat_map-member f (x ∷ xs) y h = elim (Contains-append_cases (f x) (flat_map f xs) y h) [
  | inl here ↦ (x, Contains-head x xs, here)
  | inr later ↦ let w = flat_map-member f xs y later in (w.0, Contains-later x xs w.0 w.1, w.2)
]

pub Contains-flat_map : {X Y : Type 0} (f : X → List Y) (xs : List X) (x : X) (y : Y) → Contains xs x → Contains (f x) y → Contains (flat_map f xs) y
Contains-flat_map f [] x y x_in y_in = absurd (omega (arith, x_in.1))
Contains-flat_map {X} {Y} f (z ∷ xs) x y x_in y_in = elim (Contains-cases z xs x x_in) [
  | inl first ↦ Contains-append_left (f z) (flat_map f xs) y (subst (λ (w : X). Contains (f w) y) first y_in)
  | inr later ↦ Contains-append_right (f z) (flat_map f xs) y (Contains-flat_map f xs x y later y_in)
]

-- ---- numbers in a row
pub range_more : (n : ℕ) → range_with_len 0 (n + 1) ≡ range_with_len 0 n ++ n ∷ []
range_more n =
    let last : 0 + n ≡ n = omega arith in
    sym (map-id (range_with_len 0 (n + 1))) ∙ map-range_with_len_more (λ (k : ℕ). k) 0 n n last
    ∙ ap (λ (l : List ℕ). l ++ n ∷ []) (map-id (range_with_len 0 n))
