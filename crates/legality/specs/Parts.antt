-- Groups of rows and the parts that each has, by numbers: for the search that goes by multivalued
-- dependencies. `Desk` does not cite it.
use Rattle.std.specs.Prelude.{◌≡◌, ◌<◌, ◌≤◌, ◌==◌, ℕ, Bool, true, false, List, length, slice_index_or, Option, None, Some}
use Rattle.attr_sets.specs.Attributes.{count_below}
use Rattle.row_groups.specs.Numberings.{number_at}
use Rattle.legality.specs.declared.pair.Pair.{Pair}

-- each number is below a bound
abbrev pub AreBelow : List ℕ → ℕ → Type 0
AreBelow numbers bound = (i : ℕ) → i < length numbers → number_at numbers i < bound

-- a group has this many of the parts whose first rows these are
abbrev pub part_count : List ℕ → List ℕ → ℕ → ℕ
part_count numbers parts h = count_below (λ g. number_at numbers (number_at parts g) == h) (length parts)

-- how many parts each group has
pub record ArePartCounts (numbers firsts parts counts : List ℕ) : Type 0 where
  pub one_each : length counts ≡ length firsts
  pub count : (h : ℕ) → h < length firsts → number_at counts h ≡ part_count numbers parts h

-- the row at this position is the first of fewer parts than its group has; or no row is
abbrev pub IsFirstShort : List ℕ → List ℕ → List ℕ → List ℕ → Option ℕ → Type 0
IsFirstShort groups wanted lefts present None =
    (i : ℕ) → i < length groups → number_at wanted (number_at groups i)
    ≤ number_at present (number_at lefts i)
IsFirstShort groups wanted lefts present (Some f) =
    (f < length groups) × (number_at present (number_at lefts f) < number_at wanted (number_at groups f))
    × ((i : ℕ) → i < f → number_at wanted (number_at groups i) ≤ number_at present (number_at lefts i))

-- whether a flag is set
abbrev pub flag_at : List Bool → ℕ → Bool
flag_at flags i = slice_index_or flags i false

-- which rests stand beside the left part of a row, among the first n rows
pub record AreBeside (lefts rests : List ℕ) (f n : ℕ) (flags : List Bool) : Type 0 where
  pub seen : (z : ℕ) → flag_at flags z ≡ true
      → (v : ℕ) × (v < n) × (number_at lefts v ≡ number_at lefts f) × (number_at rests v ≡ z)
  pub all : (v : ℕ) → v < n → number_at lefts v ≡ number_at lefts f → flag_at flags (number_at rests v) ≡ true

-- the first row of the group of a row whose rest has no flag; or no row is so
abbrev pub IsFirstMissing : List ℕ → List ℕ → List Bool → ℕ → Option Pair → Type 0
IsFirstMissing groups rests flags f None =
    (i : ℕ) → i < length groups → number_at groups i ≡ number_at groups f
    → flag_at flags (number_at rests i) ≡ true
IsFirstMissing groups rests flags f (Some p) =
    (p.first ≡ f) × (p.second < length groups) × (number_at groups p.second ≡ number_at groups f)
    × (flag_at flags (number_at rests p.second) ≡ false)
    × ((i : ℕ) → i < p.second → number_at groups i ≡ number_at groups f
    → flag_at flags (number_at rests i) ≡ true)
