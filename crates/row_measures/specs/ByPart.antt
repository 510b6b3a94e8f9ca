-- What `ByPart` holds: for it and the functions that count and list by it. `Desk` does not cite it.
use Rattle.std.specs.Prelude.{◌≡◌, ◌-◌, ◌<◌, ℕ, Bool, true, List, length}
use Rattle.attr_sets.specs.Attributes.{Attributes}
use Rattle.row_groups.specs.Interning.{firsts_of, groups_of}
use Rattle.row_groups.specs.Numberings.{number_at}
use Rattle.dep_model.specs.Tuples.{Relation}
use Rattle.legality.specs.Parts.{flag_at}
use Rattle.removal_laws.specs.Classes.{rows_of}
use Rattle.removal_laws.specs.Counts.{total}
use Rattle.row_measures.specs.Broken.{missing_pairs, ordinal}
use Rattle.row_measures.specs.Sorted.{Parts}
use Rattle.row_measures.specs.declared.breach.BrokenPart.{BrokenPart}
use Rattle.row_measures.specs.declared.breach.BrokenRow.{BrokenRow}
use Rattle.row_measures.specs.declared.breach.RowMark.TheVariants as mark
use Rattle.row_measures.specs.declared.by_part.ByPart.{ByPart}

-- a flag is set exactly where one of the first n left parts has fewer rests than its group
pub record AreShort (left_groups wanted present : List ℕ) (n : ℕ) (flags : List Bool) : Type 0 where
  pub seen : (h : ℕ) → flag_at flags h ≡ true
      → (a : ℕ) × (a < n) × (number_at left_groups a ≡ h) × (number_at present a < number_at wanted h)
  pub all : (a : ℕ) → a < n → number_at present a < number_at wanted (number_at left_groups a)
      → flag_at flags (number_at left_groups a) ≡ true

-- by how much the left parts fall short of the rests of their groups
abbrev pub shortage : List ℕ → List ℕ → List ℕ → ℕ
shortage left_groups wanted present =
    total (λ a. number_at wanted (number_at left_groups a) - number_at present a) (length left_groups)

-- the numbers of rows over n attributes against x ->> y
pub record ArePartsSorted (n : ℕ) (x y : Attributes) (r : Relation) (s : ByPart) : Type 0 where
  pub parts : Parts n x y r
  pub groups : groups_of s.groups ≡ parts.groups
  pub firsts : firsts_of s.groups ≡ parts.firsts
  pub broken : s.broken.items ≡ parts.broken
  pub missing : s.missing ≡ missing_pairs parts.groups parts.lefts parts.left_firsts parts.rests parts.rest_firsts

-- a group and a row, as they are listed
abbrev pub group_by : ByPart → ℕ → BrokenPart
group_by s group = record {
  group = ordinal s.broken.items group;
  rows = rows_of (groups_of s.groups) group;
  first = number_at (firsts_of s.groups) group;
  mark = mark.Unmarked;
}

abbrev pub group_row_by : ByPart → ℕ → BrokenRow
group_row_by s i = record {
  group = ordinal s.broken.items (number_at (groups_of s.groups) i);
  row = i;
  mark = mark.Unmarked;
}
