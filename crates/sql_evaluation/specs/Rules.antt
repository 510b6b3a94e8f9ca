-- What the tables of a state break of what a script says of them, and engines that refuse nothing else: for the laws
-- of runs without an error.
use Rattle.std.specs.Prelude.{◌≡◌, ◌<◌, ◌⊎◌, ℕ, true, false, Bool, Option, Some, None, List, [], ◌∷◌, map, Contains, slice_get}
use Rattle.std.specs.List.{list_any}
use Rattle.sql_syntax.specs.Syntax.{ColumnName}
use Rattle.sql_syntax.specs.Statements.{Element, column_definition, primary_key, unique_key, foreign_key, Statement, create_table}
use Rattle.sql_evaluation.specs.Cells.{Cell, is_none}
use Rattle.sql_evaluation.specs.Values.{each, bytes_of, named_cell}
use Rattle.sql_evaluation.specs.Evaluation.{Rows}
use Rattle.sql_evaluation.specs.Running.{table, State, Cast, Fails, rows_of_table, done}

-- ---- rows
-- the values of a row in columns
abbrev pub cells_in : Rows → List ColumnName → List Cell → Option (List Cell)
cells_in given columns row = each (named_cell given.names row) (map bytes_of columns)

-- whether one of these values is missing
abbrev pub is_any_missing : List Cell → Bool
is_any_missing cells = list_any is_none cells

-- a row has a missing value in columns
pub record HasMissing (given : Rows) (columns : List ColumnName) : Type 0 where
  pub row : List Cell
  pub member : Contains given.rows row
  pub cells : List Cell
  pub are : cells_in given columns row ≡ Some cells
  pub missing : is_any_missing cells ≡ true

-- two rows have the same values in columns, none of which is missing
pub record HasRepeated (given : Rows) (columns : List ColumnName) : Type 0 where
  pub i : ℕ
  pub j : ℕ
  pub before : i < j
  pub first : List Cell
  pub second : List Cell
  pub at_first : slice_get given.rows i ≡ Some first
  pub at_second : slice_get given.rows j ≡ Some second
  pub cells : List Cell
  pub are_first : cells_in given columns first ≡ Some cells
  pub are_second : cells_in given columns second ≡ Some cells
  pub none_missing : is_any_missing cells ≡ false

-- a row has values in columns, none of which is missing, that no row of another table has there
pub record HasUnmatched (given : Rows) (columns : List ColumnName) (other : Option Rows) : Type 0 where
  pub row : List Cell
  pub member : Contains given.rows row
  pub cells : List Cell
  pub are : cells_in given columns row ≡ Some cells
  pub none_missing : is_any_missing cells ≡ false
  pub none_there : (found : Rows) → other ≡ Some found → (match : List Cell) → Contains found.rows match
      → cells_in found columns match ≡ Some cells → ⊥

-- ---- tables
-- rows of a table break an element of it
abbrev pub Breaks : State → Rows → Element → Type 0
Breaks state given (column_definition name type nullable) = (nullable ≡ false) × HasMissing given (name ∷ [])
Breaks state given (primary_key columns) = HasMissing given columns ⊎ HasRepeated given columns
Breaks state given (unique_key columns) = HasRepeated given columns
Breaks state given (foreign_key columns other) =
    (state other ≡ None) ⊎ HasUnmatched given columns (rows_of_table (state other))

-- a table that a script creates breaks an element that is stated of it
pub record IsBroken (script : List Statement) (state : State) : Type 0 where
  pub name : List ℕ
  pub elements : List Element
  pub created : Contains script (create_table name elements)
  pub element : Element
  pub stated : Contains elements element
  pub zeros : Bool
  pub given : Rows
  pub held : state name ≡ Some (table zeros given)
  pub breaks : Breaks state given element

-- of the statements that can be done an engine refuses only those that would leave such a table
abbrev pub RefusesBroken : Cast → List Statement → Fails → Type 0
RefusesBroken cast script fails =
    (x : Statement) (state next : State) → fails x state ≡ true → done cast x state ≡ Some next
    → IsBroken script next
