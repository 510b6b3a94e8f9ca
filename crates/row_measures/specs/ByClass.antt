-- What `ByClass` holds: for it and the functions that count and list by it. `Desk` does not cite it.
use Rattle.std.specs.Prelude.{◌≡◌, ◌≢◌, ◌<◌, ◌≤◌, ◌==◌, ℕ, Bool, true, List, length, map}
use Rattle.attr_sets.specs.Attributes.{Attributes, union}
use Rattle.row_groups.specs.Interning.{firsts_of, groups_of}
use Rattle.row_groups.specs.Numberings.{AreFirsts, AreGroups, number_at}
use Rattle.dep_model.specs.Tuples.{Relation}
use Rattle.legality.specs.Parts.{flag_at}
use Rattle.removal_laws.specs.Classes.{in_chosen, rows_of}
use Rattle.row_measures.specs.Answers.{mark_of}
use Rattle.row_measures.specs.Broken.{AreChosen, AreFlags, AreRowCounts, HasTwoClasses, ordinal}
use Rattle.row_measures.specs.Sorted.{Classes}
use Rattle.row_measures.specs.declared.breach.BrokenPart.{BrokenPart}
use Rattle.row_measures.specs.declared.breach.BrokenRow.{BrokenRow}
use Rattle.row_measures.specs.declared.by_class.ByClass.{ByClass}

-- of the classes below n, whose groups these are, the largest of each group so far; of equally large ones the
-- least. No class from n on comes before it
pub record AreLargestBelow (n : ℕ) (owners sizes chosen : List ℕ) : Type 0 where
  pub within : (h : ℕ) → h < length chosen → number_at chosen h < length owners
  pub owned : (h : ℕ) → h < length chosen → number_at owners (number_at chosen h) ≡ h
  pub largest : (c : ℕ) → c < n → number_at sizes c ≤ number_at sizes (number_at chosen (number_at owners c))
  pub first : (c : ℕ) → c < n → number_at sizes c ≡ number_at sizes (number_at chosen (number_at owners c))
      → number_at chosen (number_at owners c) ≤ c
  pub ahead : (c : ℕ) → n ≤ c → c < length owners → number_at chosen (number_at owners c) ≤ c

-- a flag is set exactly where one of the first n rows is of another class than the chosen one
pub record AreOutside (groups classes chosen : List ℕ) (n : ℕ) (flags : List Bool) : Type 0 where
  pub seen : (h : ℕ) → flag_at flags h ≡ true
      → (i : ℕ) × (i < n) × (number_at groups i ≡ h) × (number_at classes i ≢ number_at chosen h)
  pub all : (i : ℕ) → i < n → number_at classes i ≢ number_at chosen (number_at groups i)
      → flag_at flags (number_at groups i) ≡ true

-- the numbers of rows against x -> y
pub record AreSorted (x y : Attributes) (r : Relation) (s : ByClass) : Type 0 where
  pub by_left : AreGroups r x (groups_of s.groups)
  pub group_rows : AreFirsts (groups_of s.groups) (firsts_of s.groups)
  pub by_both : AreGroups r (union x y) (groups_of s.classes)
  pub class_rows : AreFirsts (groups_of s.classes) (firsts_of s.classes)
  pub sizes : AreRowCounts (groups_of s.classes) (length (firsts_of s.classes)) s.sizes.items
  pub largest : AreChosen (groups_of s.groups) (firsts_of s.groups) (groups_of s.classes) s.chosen.items
  pub flags : AreFlags (firsts_of s.groups) (HasTwoClasses (groups_of s.groups) (groups_of s.classes)) s.broken.items

abbrev pub classes_of : {x y : Attributes} {r : Relation} {s : ByClass} → AreSorted x y r s → Classes x y r
classes_of {x} {y} {r} {s} are = record {
  groups = groups_of s.groups;
  firsts = firsts_of s.groups;
  classes = groups_of s.classes;
  class_firsts = firsts_of s.classes;
  chosen = s.chosen.items;
  broken = s.broken.items;
  by_left = are.by_left;
  group_rows = are.group_rows;
  by_both = are.by_both;
  class_rows = are.class_rows;
  largest = are.largest;
  flags = are.flags;
}

-- a class and a row, as they are listed
abbrev pub part_by : ByClass → ℕ → BrokenPart
part_by s class =
    let group : ℕ = number_at (map (number_at (groups_of s.groups)) (firsts_of s.classes)) class in
    record {
      group = ordinal s.broken.items group;
      rows = rows_of (groups_of s.classes) class;
      first = number_at (firsts_of s.classes) class;
      mark = mark_of (class == number_at s.chosen.items group);
    }

abbrev pub row_by : ByClass → ℕ → BrokenRow
row_by s i = record {
  group = ordinal s.broken.items (number_at (groups_of s.groups) i);
  row = i;
  mark = mark_of (in_chosen (groups_of s.groups) (groups_of s.classes) s.chosen.items i);
}
