-- Which set of attributes an `AttrSet` of the code stands for, and tests of such sets: for every
-- contract in which one stands.
use Rattle.std.specs.Prelude.{ℕ, Bool, ◌==◌, ◌&&◌, ◌||◌, not, nat_lt}
use Rattle.std.specs.Int.{bit_at}
use Rattle.attr_sets.specs.declared.set.AttrSet.{AttrSet}
use Rattle.attr_sets.specs.declared.set.TheConstants.{MOST_ATTRIBUTES}
use Rattle.attr_sets.specs.Attributes.{Attributes, all_below}

-- whether k is below the width and bit k of n is set
unfoldable pub has_bit : ℕ → ℕ → ℕ → Bool
has_bit width n k = nat_lt k width && (bit_at n k == 1)

-- the attributes below the width whose bit is set
unfoldable pub attributes : AttrSet → Attributes
attributes s = has_bit MOST_ATTRIBUTES s.0

-- whether every member of x below the width is in y
abbrev pub is_subset : Attributes → Attributes → Bool
is_subset x y = all_below MOST_ATTRIBUTES (λ k. not (x k) || y k)

-- whether x and y have the same members below the width
abbrev pub is_same : Attributes → Attributes → Bool
is_same x y = is_subset x y && is_subset y x

-- whether x and y have no common member below the width
abbrev pub is_disjoint : Attributes → Attributes → Bool
is_disjoint x y = all_below MOST_ATTRIBUTES (λ k. not (x k && y k))
