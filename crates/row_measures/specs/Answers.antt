-- How far rows are from obeying a dependency, and which rows stand in broken groups: for `measure`,
-- `broken_parts`, `broken_rows` and `kept_rows`, and for the commands that print them.
use Rattle.std.specs.Prelude.{◌≡◌, ◌<◌, ◌==◌, ◌↔◌, ℕ, Bool, true, if◌then◌else◌, List, length, map, All}
use Rattle.attr_sets.specs.Attributes.{Attributes}
use Rattle.row_groups.specs.Numberings.{number_at}
use Rattle.dep_model.specs.Dependencies.{Dependency, fd, mvd}
use Rattle.dep_model.specs.Projections.{members_below}
use Rattle.dep_model.specs.Tuples.{Relation}
use Rattle.legality.specs.Parts.{flag_at}
use Rattle.removal_laws.specs.Classes.{in_chosen, rows_of}
use Rattle.row_measures.specs.Broken.{flagged_groups, flagged_rows, in_flagged, missing_pairs, ordinal, rows_outside}
use Rattle.row_measures.specs.Sorted.{Classes, Parts, class_groups}
use Rattle.row_measures.specs.declared.breach.BrokenPart.{BrokenPart}
use Rattle.row_measures.specs.declared.breach.BrokenRow.{BrokenRow}
use Rattle.row_measures.specs.declared.breach.RowMark.{RowMark}
use Rattle.row_measures.specs.declared.breach.RowMark.TheVariants as mark
use Rattle.row_measures.specs.declared.breach.Measure.{Measure}

-- ---- how far the rows are from obeying a dependency
abbrev pub measure_by_classes : {x y : Attributes} {r : Relation} → Classes x y r → Measure
measure_by_classes c = record {
  groups = flagged_groups c.broken;
  rows = flagged_rows c.groups c.broken;
  amount = rows_outside c.groups c.classes c.chosen;
}

abbrev pub measure_by_parts : {n : ℕ} {x y : Attributes} {r : Relation} → Parts n x y r → Measure
measure_by_parts p = record {
  groups = flagged_groups p.broken;
  rows = flagged_rows p.groups p.broken;
  amount = missing_pairs p.groups p.lefts p.left_firsts p.rests p.rest_firsts;
}

-- of a functional dependency the rows outside the chosen classes count, of a multivalued one the pairs of a
-- left part and a rest that are missing
abbrev pub IsMeasure : ℕ → Relation → Dependency → Measure → Type 0
IsMeasure n r (fd x y) m = (c : Classes x y r) × (m ≡ measure_by_classes c)
IsMeasure n r (mvd x y) m = (p : Parts n x y r) × (m ≡ measure_by_parts p)

-- ---- the classes of broken groups
-- a class is kept where it is the chosen one of its group
abbrev pub mark_of : Bool → RowMark
mark_of kept = if kept then mark.Kept else mark.Removed

abbrev pub class_part : {x y : Attributes} {r : Relation} → Classes x y r → ℕ → BrokenPart
class_part c class = record {
  group = ordinal c.broken (number_at (class_groups c) class);
  rows = rows_of c.classes class;
  first = number_at c.class_firsts class;
  mark = mark_of (class == number_at c.chosen (number_at (class_groups c) class));
}

abbrev pub group_part : {n : ℕ} {x y : Attributes} {r : Relation} → Parts n x y r → ℕ → BrokenPart
group_part p group = record {
  group = ordinal p.broken group;
  rows = rows_of p.groups group;
  first = number_at p.firsts group;
  mark = mark.Unmarked;
}

abbrev pub class_parts_of : {x y : Attributes} {r : Relation} → Classes x y r → List BrokenPart
class_parts_of c = map (class_part c) (in_flagged (class_groups c) c.broken (length c.broken))

abbrev pub group_parts_of : {n : ℕ} {x y : Attributes} {r : Relation} → Parts n x y r → List BrokenPart
group_parts_of p = map (group_part p) (members_below (length p.broken) (flag_at p.broken))

-- for each broken group in the order of its first row: of a functional dependency its classes in the order of
-- theirs, of a multivalued one the group itself
abbrev pub AreBrokenParts : ℕ → Relation → Dependency → List BrokenPart → Type 0
AreBrokenParts n r (fd x y) parts = (c : Classes x y r) × (parts ≡ class_parts_of c)
AreBrokenParts n r (mvd x y) parts = (p : Parts n x y r) × (parts ≡ group_parts_of p)

-- ---- the rows of broken groups
abbrev pub class_row : {x y : Attributes} {r : Relation} → Classes x y r → ℕ → BrokenRow
class_row c i = record {
  group = ordinal c.broken (number_at c.groups i);
  row = i;
  mark = mark_of (in_chosen c.groups c.classes c.chosen i);
}

abbrev pub group_row : {n : ℕ} {x y : Attributes} {r : Relation} → Parts n x y r → ℕ → BrokenRow
group_row p i = record {
  group = ordinal p.broken (number_at p.groups i);
  row = i;
  mark = mark.Unmarked;
}

abbrev pub class_rows_of : {x y : Attributes} {r : Relation} → Classes x y r → List BrokenRow
class_rows_of c = map (class_row c) (in_flagged c.groups c.broken (length c.broken))

abbrev pub group_rows_of : {n : ℕ} {x y : Attributes} {r : Relation} → Parts n x y r → List BrokenRow
group_rows_of p = map (group_row p) (in_flagged p.groups p.broken (length p.broken))

-- for each broken group in the order of its first row its rows in their order
abbrev pub AreBrokenRows : ℕ → Relation → Dependency → List BrokenRow → Type 0
AreBrokenRows n r (fd x y) rows = (c : Classes x y r) × (rows ≡ class_rows_of c)
AreBrokenRows n r (mvd x y) rows = (p : Parts n x y r) × (rows ≡ group_rows_of p)

-- ---- the rows that no functional dependency removes
-- a dependency does not remove a row: it is in the chosen class of its group
abbrev pub IsKeptRow : Relation → ℕ → Dependency → Type 0
IsKeptRow r i (fd x y) = (c : Classes x y r) × (in_chosen c.groups c.classes c.chosen i ≡ true)
IsKeptRow r i (mvd x y) = Unit {0}

-- a flag for each row, set where no functional dependency removes it
pub record AreKeptFlags (ds : List Dependency) (r : Relation) (kept : List Bool) : Type 0 where
  pub one_each : length kept ≡ length r
  pub told : (i : ℕ) → i < length r → (flag_at kept i ≡ true) ↔ All (IsKeptRow r i) ds
