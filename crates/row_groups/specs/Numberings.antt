-- Rows and values by numbers: for `Interned` and `Groups` of csv_rows and the crates that use them.
-- `Desk` does not cite it.
use Rattle.std.specs.Prelude.{◌≡◌, ℕ, ◌<◌, ◌≤◌, ◌↔◌, ◌⊎◌, List, length, slice_index_or, Some}
use Rattle.std.specs.List.{slice_get}
use Rattle.row_store.specs.Rows.{row_at}
use Rattle.attr_sets.specs.Attributes.{Attributes}
use Rattle.dep_model.specs.Tuples.{Relation, AgreeOn}

-- the number at a position of a list of numbers
abbrev pub number_at : List ℕ → ℕ → ℕ
number_at numbers i = slice_index_or numbers i 0

-- the first n values are numbered: a number is the position of its value among those that were seen
pub record AreNumbered {X : Type 0} (value : ℕ → X) (n : ℕ) (seen : List X) (numbers : List ℕ) : Type 0 where
  pub one_each : length numbers ≡ n
  pub read : (i : ℕ) → i < n → slice_get seen (number_at numbers i) ≡ Some (value i)
  pub once : (g h : ℕ) (v : X) → slice_get seen g ≡ Some v → slice_get seen h ≡ Some v → g ≡ h
  pub within_count : length seen ≤ n
  pub used : (g : ℕ) → g < length seen → (j : ℕ) × (j < n) × (number_at numbers j ≡ g)
  pub in_order : (i g : ℕ) → i < n → g < number_at numbers i → (j : ℕ) × (j < i) × (number_at numbers j ≡ g)

-- each number below another stands before it
abbrev pub AreInOrder : List ℕ → Type 0
AreInOrder numbers = (i g : ℕ) → i < length numbers → g < number_at numbers i
    → (j : ℕ) × (j < i) × (number_at numbers j ≡ g)

-- rows by what they have on a set: two rows have one number exactly where they agree on it, and the
-- numbers are given in the order of first occurrence, from 0
pub record AreGroups (rows : Relation) (x : Attributes) (numbers : List ℕ) : Type 0 where
  pub one_each : length numbers ≡ length rows
  pub equal : (i j : ℕ) → i < length rows → j < length rows
      → (number_at numbers i ≡ number_at numbers j) ↔ AgreeOn x (row_at rows i) (row_at rows j)
  pub in_order : AreInOrder numbers

-- the first row of each number
pub record AreFirsts (numbers firsts : List ℕ) : Type 0 where
  pub each : (i : ℕ) → i < length numbers → number_at numbers i < length firsts
  pub within : (g : ℕ) → g < length firsts → number_at firsts g < length numbers
  pub number : (g : ℕ) → g < length firsts → number_at numbers (number_at firsts g) ≡ g
  pub least : (i : ℕ) → i < length numbers
      → (number_at firsts (number_at numbers i) < i) ⊎ (number_at firsts (number_at numbers i) ≡ i)
