-- Lists beside one another: their members at positions, and in groups.
use Rattle.std.proofs.Common.{◌≡◌, ℕ, ◌+◌, ◌==◌, zero, suc, Bool, true, false, List, [], ◌∷◌, ◌++◌, map, refl, sym, ap₂, subst, inl, inr, arith}
use Rattle.std.specs.Prelude.{All, Contains, if◌then◌else◌, slice_get}
use Rattle.std.specs.List.{AllZip}
use Rattle.std.proofs.lemmas.List.Elements.{All-append, All-cons, All-contains, All-contains_itself, All-head, All-nil, All-tail}
use Rattle.dep_model.proofs.ListLemmas.{Contains-cases, Contains-head, Contains-later}
use Rattle.design_order.specs.Order.{grouped_below, with_number}
use Rattle.optional_tables.specs.Order.{if_there, members_at}

-- ---- lists beside one another
pub zip_append : {X Y : Type 0} (R : X → Y → Type 0) (xs us : List X) (ys vs : List Y) → AllZip R xs ys → AllZip R us vs
    → AllZip R (xs ++ us) (ys ++ vs)
zip_append R [] us [] vs first second = second
zip_append R [] us (y ∷ ys) vs first second = absurd first
zip_append R (x ∷ xs) us [] vs first second = absurd first
zip_append R (x ∷ xs) us (y ∷ ys) vs first second = (first.0, zip_append R xs us ys vs first.1 second)

zip_there : {X Y : Type 0} (R : X → Y → Type 0) (xs : List X) (ys : List Y) (k : ℕ) → AllZip R xs ys
    → AllZip R (if_there (slice_get xs k)) (if_there (slice_get ys k))
zip_there R [] [] k each = tt
zip_there R [] (y ∷ ys) k each = absurd each
zip_there R (x ∷ xs) [] k each = absurd each
zip_there R (x ∷ xs) (y ∷ ys) zero each = (each.0, tt)
zip_there R (x ∷ xs) (y ∷ ys) (suc k) each = zip_there R xs ys k each.1

pub zip_members : {X Y : Type 0} (R : X → Y → Type 0) (xs : List X) (ys : List Y) (positions : List ℕ) → AllZip R xs ys
    → AllZip R (members_at xs positions) (members_at ys positions)
zip_members R xs ys [] each = tt
zip_members R xs ys (k ∷ ks) each =
    zip_append R (if_there (slice_get xs k)) (members_at xs ks) (if_there (slice_get ys k)) (members_at ys ks)
    (zip_there R xs ys k each) (zip_members R xs ys ks each)

zip_with : {X Y : Type 0} (R : X → Y → Type 0) (number : ℕ) (xs : List X) (ys : List Y) (ms : List ℕ) → AllZip R xs ys
    → AllZip R (with_number number xs ms) (with_number number ys ms)
zip_with R number [] [] ms each = tt
zip_with R number [] (y ∷ ys) ms each = absurd each
zip_with R number (x ∷ xs) [] ms each = absurd each
zip_with R number (x ∷ xs) (y ∷ ys) [] each = tt
zip_with R number (x ∷ xs) (y ∷ ys) (m ∷ ms) each = by (m == number) (zip_with R number xs ys ms each.1)
  where
    by : (b : Bool) → AllZip R (with_number number xs ms) (with_number number ys ms)
        → AllZip R (if b then x ∷ with_number number xs ms else with_number number xs ms)
        (if b then y ∷ with_number number ys ms else with_number number ys ms)
    by true later = (each.0, later)
    by false later = later

pub zip_grouped : {X Y : Type 0} (R : X → Y → Type 0) (number : ℕ) (xs : List X) (ys : List Y) (ms : List ℕ) → AllZip R xs ys
    → AllZip R (grouped_below number xs ms) (grouped_below number ys ms)
zip_grouped R zero xs ys ms each = tt
zip_grouped R (suc number) xs ys ms each =
    zip_append R (grouped_below number xs ms) (with_number number xs ms) (grouped_below number ys ms) (with_number number ys ms)
    (zip_grouped R number xs ys ms each) (zip_with R number xs ys ms each)

-- what stands beside a member
pub beside_member : {X Y : Type 0} (R : X → Y → Type 0) (xs : List X) (ys : List Y) → AllZip R xs ys → (x : X) → Contains xs x
    → (y : Y) × Contains ys y × R x y
beside_member R [] ys each x x_in = absurd (omega (arith, x_in.1))
beside_member R (a ∷ xs) [] each x x_in = absurd each
beside_member {X} {Y} R (a ∷ xs) (b ∷ ys) each x x_in = elim (Contains-cases a xs x x_in) [
  | inl same ↦ (b, Contains-head b ys, subst (λ (z : X). R z b) (sym same) each.0)
  | inr later ↦ let found = beside_member R xs ys each.1 x later in (found.0, Contains-later b ys found.0 found.1, found.2)
]

pub zip_weaker : {X Y : Type 0} (R S : X → Y → Type 0) → ((x : X) (y : Y) → R x y → S x y) → (xs : List X) (ys : List Y) → AllZip R xs ys
    → AllZip S xs ys
zip_weaker R S gives [] [] each = tt
zip_weaker R S gives [] (y ∷ ys) each = absurd each
zip_weaker R S gives (x ∷ xs) [] each = absurd each
zip_weaker R S gives (x ∷ xs) (y ∷ ys) each = (gives x y each.0, zip_weaker R S gives xs ys each.1)

pub zip_mapped_same : {X Y Z : Type 0} (f : X → Z) (g : Y → Z) (xs : List X) (ys : List Y) → AllZip (λ (x : X) (y : Y). g y ≡ f x) xs ys
    → map g ys ≡ map f xs
zip_mapped_same f g [] [] each = refl
zip_mapped_same f g [] (y ∷ ys) each = absurd each
zip_mapped_same f g (x ∷ xs) [] each = absurd each
zip_mapped_same {X} {Y} {Z} f g (x ∷ xs) (y ∷ ys) each =
    ap₂ (λ (z : Z) (zs : List Z). z ∷ zs) each.0 (zip_mapped_same f g xs ys each.1)

-- ---- what holds of each
pub all_at : {X : Type 0} (P : X → Type 0) (xs : List X) (positions : List ℕ) → All P xs → All P (members_at xs positions)
all_at P xs [] all = All-nil P
all_at {X} P xs (k ∷ ks) all = All-append P (if_there (slice_get xs k)) (members_at xs ks) (there xs k all) (all_at P xs ks all)
  where
    there : (ys : List X) (j : ℕ) → All P ys → All P (if_there (slice_get ys j))
    there [] j each = All-nil P
    there (y ∷ ys) zero each = All-cons P y [] (All-head P y ys each) (All-nil P)
    there (y ∷ ys) (suc j) each = there ys j (All-tail P y ys each)

all_with : {X : Type 0} (P : X → Type 0) (number : ℕ) (xs : List X) (ms : List ℕ) → All P xs → All P (with_number number xs ms)
all_with P number [] ms all = All-nil P
all_with P number (x ∷ xs) [] all = All-nil P
all_with {X} P number (x ∷ xs) (m ∷ ms) all = by (m == number) (all_with P number xs ms (All-tail P x xs all))
  where
    by : (b : Bool) → All P (with_number number xs ms) → All P (if b then x ∷ with_number number xs ms else with_number number xs ms)
    by true later = All-cons P x (with_number number xs ms) (All-head P x xs all) later
    by false later = later

pub all_grouped : {X : Type 0} (P : X → Type 0) (number : ℕ) (xs : List X) (ms : List ℕ) → All P xs → All P (grouped_below number xs ms)
all_grouped P zero xs ms all = All-nil P
all_grouped P (suc number) xs ms all =
    All-append P (grouped_below number xs ms) (with_number number xs ms) (all_grouped P number xs ms all) (all_with P number xs ms all)

-- a member of the groups is one of the list
pub from_grouped : {X : Type 0} (number : ℕ) (xs : List X) (ms : List ℕ) (x : X) → Contains (grouped_below number xs ms) x → Contains xs x
from_grouped number xs ms x x_in =
    All-contains (Contains xs) (grouped_below number xs ms) x
    (all_grouped (Contains xs) number xs ms (All-contains_itself xs)) x_in
