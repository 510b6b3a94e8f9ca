-- Rows with one value more, in which two rows agree exactly where they are equal: the bytes of a number that equal rows
-- share and others do not. For `with_numbers`. `Desk` does not cite it.
use Rattle.std.specs.Prelude.{◌≡◌, ℕ, ◌<◌, ◌^◌, List, [], ◌∷◌, ◌++◌, length}
use Rattle.std.specs.Int.{w32, to_le_bytes}
use Rattle.attr_sets.specs.Attributes.{below}
use Rattle.row_groups.specs.Numberings.{AreGroups, number_at}
use Rattle.dep_model.specs.Tuples.{Tuple, Relation}
use Rattle.row_store.specs.Rows.{row_at}

-- a row with the four bytes of a number
abbrev pub with_number : ℕ → Tuple → Tuple
with_number number t = t ++ to_le_bytes w32 number ∷ []

-- each of the rows with its number
pub record AreNumberedBy (r : Relation) (numbers : List ℕ) (made : Relation) : Type 0 where
  pub one_each : length made ≡ length r
  pub row : (i : ℕ) → i < length r → row_at made i ≡ with_number (number_at numbers i) (row_at r i)
  pub small : (i : ℕ) → i < length r → number_at numbers i < 2 ^ 32

-- the rows made of others, which have n columns: each has the number of its group, where equal rows are a group
pub record AreNumbered (n : ℕ) (r made : Relation) : Type 0 where
  pub numbers : List ℕ
  pub groups : AreGroups r (below n) numbers
  pub each : AreNumberedBy r numbers made
