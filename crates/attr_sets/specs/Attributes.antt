-- Sets of attributes as tests on numbers, with their operations, relations and order: for every
-- definition of the theory.
use Rattle.std.specs.Prelude.{◌≡◌, ℕ, ◌+◌, ◌<◌, ◌≤◌, ◌==◌, Bool, true, false, zero, suc, not, ◌&&◌, ◌||◌, nat_lt, if◌then◌else◌}

-- a set of attributes, as its test
abbrev pub Attributes : Type 0
Attributes = ℕ → Bool

-- the attributes below n
abbrev pub below : ℕ → Attributes
below n k = nat_lt k n

-- the attribute i alone
abbrev pub only : ℕ → Attributes
only i k = k == i

-- no attribute
abbrev pub none : Attributes
none k = false

abbrev pub union : Attributes → Attributes → Attributes
union x y k = x k || y k

abbrev pub intersection : Attributes → Attributes → Attributes
intersection x y k = x k && y k

abbrev pub difference : Attributes → Attributes → Attributes
difference x y k = x k && not (y k)

-- every member of x is in y
abbrev pub IsSubset : Attributes → Attributes → Type 0
IsSubset x y = (k : ℕ) → x k ≡ true → y k ≡ true

-- x has no member
abbrev pub IsEmpty : Attributes → Type 0
IsEmpty x = (k : ℕ) → x k ≡ false

-- x and y have no common member
abbrev pub Disjoint : Attributes → Attributes → Type 0
Disjoint x y = (k : ℕ) → x k ≡ true → y k ≡ false

-- x and y have a common member
abbrev pub Intersects : Attributes → Attributes → Type 0
Intersects x y = (k : ℕ) × (x k ≡ true) × (y k ≡ true)

-- x comes before y: they differ, and y has the greatest attribute in which they do
abbrev pub IsBefore : Attributes → Attributes → Type 0
IsBefore x y = (k : ℕ) × (x k ≡ false) × (y k ≡ true) × ((j : ℕ) → k < j → x j ≡ y j)

-- of the subsets of a set, y is the first after x
pub record IsNextSubset (whole x y : Attributes) : Type 0 where
  pub within : IsSubset y whole
  pub after : IsBefore x y
  pub first : (z : Attributes) → IsSubset z whole → IsBefore x z → IsBefore z y → ⊥

-- i is the first member of x from an attribute on
pub record IsFirstFrom (x : Attributes) (from i : ℕ) : Type 0 where
  pub from_on : from ≤ i
  pub member : x i ≡ true
  pub least : (k : ℕ) → from ≤ k → k < i → x k ≡ false

-- how many members lie below n
unfoldable pub count_below : Attributes → ℕ → ℕ
count_below x zero = 0
count_below x (suc n) = count_below x n + (if x n then 1 else 0)

-- whether the test passes at each attribute below n
unfoldable pub all_below : ℕ → Attributes → Bool
all_below zero x = true
all_below (suc n) x = all_below n x && x n
