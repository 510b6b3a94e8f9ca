-- What the numbers of values and of rows mean, as code holds them: for `Interned` and `Groups`, and
-- the crates that use them. `Desk` does not cite it.
use Rattle.std.specs.Prelude.{◌≡◌, ℕ, ◌<◌, List, [], length, slice_index_or}
use Rattle.attr_sets.specs.Attributes.{only}
use Rattle.dep_model.specs.Tuples.{Relation}
use Rattle.row_groups.specs.Numberings.{AreGroups}
use Rattle.row_groups.specs.declared.interning.Interned.{Interned}
use Rattle.row_groups.specs.declared.groups.Groups.{Groups}

-- how many rows there are
abbrev pub count_of : Interned → ℕ
count_of t = t.count

-- how many values a row has
abbrev pub width_of_rows : Interned → ℕ
width_of_rows t = length t.columns.items

-- the numbers of the values at an attribute
abbrev pub codes_at : Interned → ℕ → List ℕ
codes_at t k = slice_index_or t.columns.items k []

-- the rows of this width, each value by its number in its column
pub record IsInterned (n : ℕ) (rows : Relation) (t : Interned) : Type 0 where
  pub count : count_of t ≡ length rows
  pub width : width_of_rows t ≡ n
  pub codes : (k : ℕ) → k < n → AreGroups rows (only k) (codes_at t k)

-- the group of each row, and the first row of each group
abbrev pub groups_of : Groups → List ℕ
groups_of g = g.numbers.items

abbrev pub firsts_of : Groups → List ℕ
firsts_of g = g.firsts.items
