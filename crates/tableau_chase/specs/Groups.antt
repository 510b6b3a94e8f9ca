-- Rows of a tableau that agree on a set: for the functions below `chase`. `Desk` does not cite it.
use Rattle.std.specs.Prelude.{◌≡◌, ℕ, ◌<◌, ◌≤◌, List, [], length, All, Contains, slice_index, slice_index_or}
use Rattle.attr_sets.specs.Attributes.{Attributes}
use Rattle.chase_laws.specs.Tableaux.{SymbolRow, Tableau, SymbolsAgree}

-- the row at a position of a tableau
abbrev pub symbol_row_at : Tableau → ℕ → SymbolRow
symbol_row_at rows i = slice_index_or rows i []

-- for each row the position of one that comes no later and agrees with it on x, the same one for all rows that
-- agree on x
pub record AreSymbolLeaders (x : Attributes) (rows : Tableau) (leaders : List ℕ) : Type 0 where
  pub one_each : length leaders ≡ length rows
  pub first : (i : ℕ) → i < length rows → slice_index leaders i ≤ i
  pub agree : (i : ℕ) → i < length rows
      → SymbolsAgree x (symbol_row_at rows (slice_index leaders i)) (symbol_row_at rows i)
  pub same : (i j : ℕ) → i < length rows → j < length rows
      → SymbolsAgree x (symbol_row_at rows i) (symbol_row_at rows j)
      → slice_index leaders i ≡ slice_index leaders j

-- at the position of each row, only rows that it leads, and of these all that lead others by the second list
pub record AreFollowers (leaders seconds : List ℕ) (groups : List (List ℕ)) : Type 0 where
  pub one_each : length groups ≡ length leaders
  pub each : (g : ℕ) → All (λ j. j < length leaders) (slice_index_or groups g [])
  pub led : (g : ℕ) → All (λ j. slice_index leaders j ≡ g) (slice_index_or groups g [])
  pub all : (j : ℕ) → j < length leaders → slice_index seconds j ≡ j
      → Contains (slice_index_or groups (slice_index leaders j) []) j
