-- Positions of the members of a list that pass a test, and the members at positions.
use Rattle.std.proofs.Common.{◌≡◌, ◌<◌, ◌+◌, ◌≤◌, ℕ, zero, suc, Bool, true, false, if◌then◌else◌, List, [], ◌∷◌, ◌++◌, Option, Some, None, length, get_or, take, refl, sym, subst, ap, ◌∙◌, inl, inr, arith}
use Rattle.std.specs.Prelude.{All, Contains, filter, slice_get}
use Rattle.std.specs.List.{flat_map}
use Rattle.std.proofs.lemmas.Bool.{cases_Bool}
use Rattle.std.proofs.lemmas.List.{length-take-le, take_more}
use Rattle.std.proofs.lemmas.Option.{slice_get_within}
use Rattle.dep_model.proofs.ListLemmas.{All-members, Contains-cases, Contains-flat_map, Contains-head, Contains-later, Contains-nil, flat_map-member}
use Rattle.optional_tables.specs.Order.{positions_from, if_there, members_at}

-- ---- positions
-- a position at which a member passes
pub position_from : {X : Type 0} (test : X → Bool) (m : ℕ) (xs : List X) (j : ℕ) (x : X) → slice_get xs j ≡ Some x
    → test x ≡ true → Contains (positions_from test m xs) (m + j)
position_from test m [] j x at passes = absurd (none_some at)
  where
    none_some : None ≡ Some x → ⊥
    none_some same = cc
position_from {X} test m (y ∷ xs) zero x at passes =
    let same : y ≡ x = grind (arith, at) in
    let here : test y ≡ true = ap test same ∙ passes in
    let first : m + 0 ≡ m = omega arith in
    subst (λ (b : Bool). Contains (if b then m ∷ positions_from test (m + 1) xs else positions_from test (m + 1) xs) (m + 0))
    (sym here)
    (subst (λ (k : ℕ). Contains (m ∷ positions_from test (m + 1) xs) k) (sym first)
    (Contains-head m (positions_from test (m + 1) xs)))
position_from {X} test m (y ∷ xs) (suc j) x at passes =
    let later = position_from test (m + 1) xs j x at passes in
    let next : m + 1 + j ≡ m + suc j = omega arith in
    let is = subst (λ (k : ℕ). Contains (positions_from test (m + 1) xs) k) next later in
    by_test (test y) is
  where
    by_test : (b : Bool) → Contains (positions_from test (m + 1) xs) (m + suc j)
        → Contains (if b then m ∷ positions_from test (m + 1) xs else positions_from test (m + 1) xs) (m + suc j)
    by_test true is = Contains-later m (positions_from test (m + 1) xs) (m + suc j) is
    by_test false is = is

-- and each position has one
pub position_to : {X : Type 0} (test : X → Bool) (m : ℕ) (xs : List X) (k : ℕ) → Contains (positions_from test m xs) k
    → (j : ℕ) × (x : X) × (k ≡ m + j) × (slice_get xs j ≡ Some x) × (test x ≡ true)
position_to test m [] k has = absurd (Contains-nil k has)
position_to {X} test m (y ∷ xs) k has =
    by_test (test y) refl (λ found.
    let (j, x, is, at, passes) = position_to test (m + 1) xs k found in
    (suc j, x, omega (arith, is), at, passes)) has
  where
    by_test : (b : Bool) → test y ≡ b
        → (Contains (positions_from test (m + 1) xs) k
        → (j : ℕ) × (x : X) × (k ≡ m + j) × (slice_get (y ∷ xs) j ≡ Some x) × (test x ≡ true))
        → Contains (if b then m ∷ positions_from test (m + 1) xs else positions_from test (m + 1) xs) k
        → (j : ℕ) × (x : X) × (k ≡ m + j) × (slice_get (y ∷ xs) j ≡ Some x) × (test x ≡ true)
    by_test false fails later found = later found
    by_test true passes later found = elim (Contains-cases m (positions_from test (m + 1) xs) k found) [
      | inl same ↦ (0, y, omega (arith, same), refl, passes)
      | inr more ↦ later more
    ]

-- where the positions are counted from 0
pub position_in : {X : Type 0} (test : X → Bool) (xs : List X) (k : ℕ) (x : X) → slice_get xs k ≡ Some x → test x ≡ true
    → Contains (positions_from test 0 xs) k
position_in test xs k x at passes =
    let first : 0 + k ≡ k = omega arith in
    subst (λ (j : ℕ). Contains (positions_from test 0 xs) j) first (position_from test 0 xs k x at passes)

pub positions_within : {X : Type 0} (test : X → Bool) (xs : List X) → All (λ k. k < length xs) (positions_from test 0 xs)
positions_within test xs =
    All-members (λ k. k < length xs) (positions_from test 0 xs) (λ k has.
    let (j, x, is, at, passes) = position_to test 0 xs k has in
    let low = slice_get_within xs j x at in
    omega (arith, is, low))

-- one member more
pub positions_more : {X : Type 0} (test : X → Bool) (m : ℕ) (xs : List X) (x : X)
    → positions_from test m (xs ++ x ∷ [])
    ≡ positions_from test m xs ++ (if test x then (m + length xs) ∷ [] else [])
positions_more test m [] x = by_test (test x)
  where
    first : m ≡ m + 0
    first = omega arith

    by_test : (b : Bool) → (if b then m ∷ [] else []) ≡ (if b then (m + 0) ∷ [] else [])
    by_test true = ap (λ (k : ℕ). k ∷ []) first
    by_test false = refl
positions_more {X} test m (y ∷ xs) x =
    by_test (test y) (positions_more test (m + 1) xs x ∙ ap (λ (k : ℕ). positions_from test (m + 1) xs ++ (if test x then k ∷ [] else [])) place)
  where
    place : m + 1 + length xs ≡ m + suc (length xs)
    place = omega arith

    last : List ℕ
    last = if test x then (m + suc (length xs)) ∷ [] else []

    by_test : (b : Bool)
        → positions_from test (m + 1) (xs ++ x ∷ [])
        ≡ positions_from test (m + 1) xs ++ (if test x then (m + suc (length xs)) ∷ [] else [])
        → (if b then m ∷ positions_from test (m + 1) (xs ++ x ∷ []) else positions_from test (m + 1) (xs ++ x ∷ []))
        ≡ (if b then m ∷ positions_from test (m + 1) xs else positions_from test (m + 1) xs)
        ++ (if test x then (m + suc (length xs)) ∷ [] else [])
    by_test true rest = ap (λ (ks : List ℕ). m ∷ ks) rest
    by_test false rest = rest

-- one position more in a loop
pub positions_next : {X : Type 0} (test : X → Bool) (xs : List X) (k : ℕ) (d : X) (wanted : Bool) (found next : List ℕ)
    → k < length xs → wanted ≡ test (get_or xs k d) → found ≡ positions_from test 0 (take k xs)
    → next ≡ found ++ (if wanted then k ∷ [] else []) → next ≡ positions_from test 0 (take (k + 1) xs)
positions_next {X} test xs k d wanted found next low is so_far added =
    added
    ∙ ap (λ (ks : List ℕ). ks ++ (if wanted then k ∷ [] else [])) so_far
    ∙ ap (λ (b : Bool). positions_from test 0 (take k xs) ++ (if b then k ∷ [] else [])) is
    ∙ ap (λ (j : ℕ). positions_from test 0 (take k xs) ++ (if test (get_or xs k d) then j ∷ [] else [])) place
    ∙ sym (positions_more test 0 (take k xs) (get_or xs k d))
    ∙ sym (ap (positions_from test 0) (take_more xs k d low))
  where
    place : k ≡ 0 + length (take k xs)
    place = let long = length-take-le k xs (omega (arith, low)) in omega (arith, long)

-- ---- members at positions
pub member_at_position : {X : Type 0} (xs : List X) (positions : List ℕ) (k : ℕ) (x : X) → slice_get xs k ≡ Some x
    → Contains positions k → Contains (members_at xs positions) x
member_at_position {X} xs positions k x at has =
    Contains-flat_map (λ (i : ℕ). if_there (slice_get xs i)) positions k x has
    (subst (λ (found : Option X). Contains (if_there found) x) (sym at) (Contains-head x []))

pub position_of_member : {X : Type 0} (xs : List X) (positions : List ℕ) (x : X) → Contains (members_at xs positions) x
    → (k : ℕ) × Contains positions k × (slice_get xs k ≡ Some x)
position_of_member {X} xs positions x has =
    let (k, in_positions, there) = flat_map-member (λ (i : ℕ). if_there (slice_get xs i)) positions x has in
    (k, in_positions, by_found (slice_get xs k) there)
  where
    by_found : (found : Option X) → Contains (if_there found) x → found ≡ Some x
    by_found None there = absurd (Contains-nil x there)
    by_found (Some y) there = elim (Contains-cases y [] x there) [
      | inl same ↦ ap Some (sym same)
      | inr none ↦ absurd (Contains-nil x none)
    ]

-- one position more, in front
pub members_first : {X : Type 0} (xs : List X) (positions : List ℕ) (k : ℕ) (x : X) → slice_get xs k ≡ Some x
    → members_at xs (k ∷ positions) ≡ x ∷ members_at xs positions
members_first {X} xs positions k x at =
    ap (λ (found : Option X). if_there found ++ members_at xs positions) at

-- the members at the positions of those that pass are those that pass
members_among : {X : Type 0} (test : X → Bool) (all : List X) (m : ℕ) (xs : List X)
    → ((j : ℕ) → slice_get all (m + j) ≡ slice_get xs j)
    → members_at all (positions_from test m xs) ≡ filter test xs
members_among test all m [] there = refl
members_among {X} test all m (y ∷ xs) there =
    by_test (test y) (members_among test all (m + 1) xs (λ j.
    let next : m + 1 + j ≡ m + suc j = omega arith in
    ap (slice_get all) next ∙ there (suc j)))
  where
    here : slice_get all m ≡ Some y
    here = let first : m ≡ m + 0 = omega arith in ap (slice_get all) first ∙ there 0

    by_test : (b : Bool) → members_at all (positions_from test (m + 1) xs) ≡ filter test xs
        → members_at all (if b then m ∷ positions_from test (m + 1) xs else positions_from test (m + 1) xs)
        ≡ (if b then y ∷ filter test xs else filter test xs)
    by_test true rest = members_first all (positions_from test (m + 1) xs) m y here ∙ ap (λ (ys : List X). y ∷ ys) rest
    by_test false rest = rest

pub members_of_positions : {X : Type 0} (test : X → Bool) (xs : List X)
    → members_at xs (positions_from test 0 xs) ≡ filter test xs
members_of_positions test xs = members_among test xs 0 xs (λ j.
    let first : 0 + j ≡ j = omega arith in ap (slice_get xs) first)
