-- Which groups of rows break a dependency, and what stands in them, by numbers: for `Sorted` and `Answers`,
-- and the functions that they speak of.
use Rattle.std.specs.Prelude.{◌≡◌, ◌≢◌, ◌+◌, ◌<◌, ◌≤◌, ◌==◌, ◌&&◌, ◌↔◌, ℕ, zero, suc, Bool, true, not, if◌then◌else◌}
use Rattle.std.specs.Prelude.{List, [], ◌++◌, length}
use Rattle.attr_sets.specs.Attributes.{Attributes, count_below}
use Rattle.row_groups.specs.Numberings.{number_at}
use Rattle.dep_model.specs.Projections.{members_below}
use Rattle.legality.specs.Parts.{flag_at}
use Rattle.removal_laws.specs.Classes.{AreLargestClasses, in_chosen, rows_of}
use Rattle.removal_laws.specs.Counts.{total}

-- two rows of a group are of two classes
abbrev pub HasTwoClasses : List ℕ → List ℕ → ℕ → Type 0
HasTwoClasses groups classes group =
    (i j : ℕ) × (i < length groups) × (j < length groups) × (number_at groups i ≡ group)
    × (number_at groups j ≡ group) × (number_at classes i ≢ number_at classes j)

-- for two rows of a group no row has the left part of the first and the rest of the second
abbrev pub LacksRow : List ℕ → List ℕ → List ℕ → ℕ → Type 0
LacksRow groups lefts rests group =
    (i j : ℕ) × (i < length groups) × (j < length groups) × (number_at groups i ≡ group)
    × (number_at groups j ≡ group)
    × ((v : ℕ) → v < length groups → number_at lefts v ≡ number_at lefts i → number_at rests v ≡ number_at rests j → ⊥)

-- a flag for each group, set where the group is so
pub record AreFlags (firsts : List ℕ) (IsSo : ℕ → Type 0) (flags : List Bool) : Type 0 where
  pub one_each : length flags ≡ length firsts
  pub told : (h : ℕ) → h < length flags → (flag_at flags h ≡ true) ↔ IsSo h

-- a largest class of each group; of equally large ones that of the least first row, since classes are
-- numbered in the order of their first rows
pub record AreChosen (groups firsts classes chosen : List ℕ) : Type 0 where
  pub one_each : length chosen ≡ length firsts
  pub largest : AreLargestClasses groups classes chosen
  pub first : (i : ℕ) → i < length groups
      → rows_of classes (number_at classes i) ≡ rows_of classes (number_at chosen (number_at groups i))
      → number_at chosen (number_at groups i) ≤ number_at classes i

-- ---- counts
-- how many rows have each number below one
pub record AreRowCounts (numbers : List ℕ) (count : ℕ) (counts : List ℕ) : Type 0 where
  pub one_each : length counts ≡ count
  pub each : (c : ℕ) → c < count → number_at counts c ≡ rows_of numbers c

-- the groups that have a flag, and the rows in them
abbrev pub flagged_groups : List Bool → ℕ
flagged_groups flags = count_below (flag_at flags) (length flags)

abbrev pub flagged_rows : List ℕ → List Bool → ℕ
flagged_rows groups flags = count_below (λ i. flag_at flags (number_at groups i)) (length groups)

-- the rows outside the chosen class of their group
abbrev pub rows_outside : List ℕ → List ℕ → List ℕ → ℕ
rows_outside groups classes chosen = count_below (λ i. not (in_chosen groups classes chosen i)) (length groups)

-- no row has this left part and this rest
abbrev pub is_absent : List ℕ → List ℕ → ℕ → ℕ → Bool
is_absent lefts rests a b =
    count_below (λ v. (number_at lefts v == a) && (number_at rests v == b)) (length lefts) == 0

-- the rests that a left part lacks: they are of its group, and no row has both
abbrev pub lacks : List ℕ → List ℕ → List ℕ → List ℕ → List ℕ → ℕ → Attributes
lacks groups lefts left_firsts rests rest_firsts a b =
    (number_at groups (number_at rest_firsts b) == number_at groups (number_at left_firsts a))
    && is_absent lefts rests a b

-- the pairs of a left part and a rest of one group that no row has
abbrev pub missing_pairs : List ℕ → List ℕ → List ℕ → List ℕ → List ℕ → ℕ
missing_pairs groups lefts left_firsts rests rest_firsts =
    total (λ a. count_below (lacks groups lefts left_firsts rests rest_firsts a) (length rest_firsts))
    (length left_firsts)

-- ---- lists
-- the number of a group among those that have a flag, from 1: so many up to it have one
abbrev pub ordinal : List Bool → ℕ → ℕ
ordinal flags group = count_below (flag_at flags) (group + 1)

pub record AreOrdinals (flags : List Bool) (numbers : List ℕ) : Type 0 where
  pub one_each : length numbers ≡ length flags
  pub each : (h : ℕ) → h < length flags → number_at numbers h ≡ ordinal flags h

-- the positions of a number
abbrev pub positions_of : List ℕ → ℕ → List ℕ
positions_of numbers group = members_below (length numbers) (λ i. number_at numbers i == group)

-- group by group below m, the positions in each that has a flag
unfoldable pub in_flagged : List ℕ → List Bool → ℕ → List ℕ
in_flagged numbers flags zero = []
in_flagged numbers flags (suc h) =
    in_flagged numbers flags h ++ (if flag_at flags h then positions_of numbers h else [])
