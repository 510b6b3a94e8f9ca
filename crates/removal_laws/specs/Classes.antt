-- Groups of rows, by numbers, their classes, and the largest class of each group: for what measures rows.
-- `Desk` does not cite it.
use Rattle.std.specs.Prelude.{◌≡◌, ℕ, ◌<◌, ◌≤◌, ◌==◌, List, length}
use Rattle.attr_sets.specs.Attributes.{count_below}
use Rattle.row_groups.specs.Numberings.{number_at}
use Rattle.removal_laws.specs.Removals.{Positions}

-- how many rows have this number
abbrev pub rows_of : List ℕ → ℕ → ℕ
rows_of numbers c = count_below (λ i. number_at numbers i == c) (length numbers)

-- of the classes in a group none has more rows
pub record IsLargestClass (groups classes : List ℕ) (group class : ℕ) : Type 0 where
  pub within : (i : ℕ) × (i < length groups) × (number_at groups i ≡ group) × (number_at classes i ≡ class)
  pub largest : (i : ℕ) → i < length groups → number_at groups i ≡ group
      → rows_of classes (number_at classes i) ≤ rows_of classes class

-- a largest class of each group, by the group's number
pub record AreLargestClasses (groups classes chosen : List ℕ) : Type 0 where
  pub for_each : (i : ℕ) → i < length groups → number_at groups i < length chosen
  pub largest : (group : ℕ) → group < length chosen
      → IsLargestClass groups classes group (number_at chosen group)

-- the rows in the chosen class of their group
abbrev pub in_chosen : List ℕ → List ℕ → List ℕ → Positions
in_chosen groups classes chosen i = number_at classes i == number_at chosen (number_at groups i)
