-- An engine that refuses exactly what would leave a broken table: for the law that it is fair. `Desk` does not cite it.
use Rattle.std.specs.Prelude.{Bool, false, not, ◌&&◌, ◌||◌, Option, Some, None, is_some, List, [], ◌∷◌}
use Rattle.std.specs.List.{list_any}
use Rattle.sql_syntax.specs.Syntax.{ColumnName}
use Rattle.sql_syntax.specs.Statements.{Element, column_definition, primary_key, unique_key, foreign_key, Statement}
use Rattle.sql_syntax.specs.Statements.{create_table}
use Rattle.sql_evaluation.specs.Cells.{Cell, same_row}
use Rattle.sql_evaluation.specs.Evaluation.{Rows}
use Rattle.sql_evaluation.specs.Rules.{cells_in, is_any_missing}
use Rattle.sql_evaluation.specs.Running.{Held, table, view, State, Cast, Fails, rows_of_table, done}

-- ---- rows
-- values are there, and pass a test
abbrev pub there_and : Option (List Cell) → (List Cell → Bool) → Bool
there_and None test = false
there_and (Some cells) test = test cells

-- whether a row has a missing value in columns
abbrev pub has_missing : Rows → List ColumnName → Bool
has_missing given columns = list_any (λ row. there_and (cells_in given columns row) is_any_missing) given.rows

-- whether a row has these values there
abbrev pub has_values : Rows → List ColumnName → List Cell → List Cell → Bool
has_values given columns cells row = there_and (cells_in given columns row) (same_row cells)

-- whether a later one of these rows has the values of an earlier one, none of which is missing
abbrev pub has_repeated : Rows → List ColumnName → List (List Cell) → Bool
has_repeated given columns [] = false
has_repeated given columns (row ∷ rows) =
    there_and (cells_in given columns row)
    (λ cells. not (is_any_missing cells) && list_any (has_values given columns cells) rows)
    || has_repeated given columns rows

-- whether a row of another table has these values
abbrev pub has_match : Option Rows → List ColumnName → List Cell → Bool
has_match None columns cells = false
has_match (Some found) columns cells = list_any (has_values found columns cells) found.rows

-- whether a row has values, none of which is missing, that no row of another table has
abbrev pub has_unmatched : Rows → List ColumnName → Option Rows → Bool
has_unmatched given columns other =
    list_any (λ row. there_and (cells_in given columns row)
    (λ cells. not (is_any_missing cells) && not (has_match other columns cells))) given.rows

-- ---- tables
abbrev pub breaks : State → Rows → Element → Bool
breaks state given (column_definition name type nullable) = not nullable && has_missing given (name ∷ [])
breaks state given (primary_key columns) = has_missing given columns || has_repeated given columns given.rows
breaks state given (unique_key columns) = has_repeated given columns given.rows
breaks state given (foreign_key columns other) =
    not (is_some (state other)) || has_unmatched given columns (rows_of_table (state other))

abbrev pub held_breaks : State → Option Held → List Element → Bool
held_breaks state None elements = false
held_breaks state (Some (table zeros given)) elements = list_any (breaks state given) elements
held_breaks state (Some (view q)) elements = false

-- the table that a statement creates
abbrev pub created_breaks : State → Statement → Bool
created_breaks state (create_table name elements) = held_breaks state (state name) elements
created_breaks state x = false

-- ---- the engine
abbrev pub leaves_broken : List Statement → Option State → Bool
leaves_broken script None = false
leaves_broken script (Some next) = list_any (created_breaks next) script

abbrev pub refuses_broken : Cast → List Statement → Fails
refuses_broken cast script x state = leaves_broken script (done cast x state)
