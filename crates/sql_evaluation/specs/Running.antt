-- What statements do to the tables of an engine, and what a run of a script keeps of it: for the laws of scripts.
use Rattle.std.specs.Prelude.{ℕ, ℤ, pos, Bool, true, false, not, ◌&&◌, ◌||◌, ◌==◌, if◌then◌else◌, Option, Some, None, is_some, List, [], ◌∷◌, ◌++◌, length, map, option_map, option_and_then}
use Rattle.std.specs.Cmp.Lexicographic.{pointwise}
use Rattle.std.specs.List.{list_all}
use Rattle.std.specs.Ordering.{int_eq}
use Rattle.std.specs.Str.{bytes_eq}
use Rattle.sql_syntax.specs.Syntax.{ColumnName, Query}
use Rattle.sql_syntax.specs.Statements.{Element, column_definition, primary_key, unique_key, foreign_key, Statement, remark, begin, commit, create_table, create_zeros, create_from, create_view, insert_into, insert_all, drop_table, ask}
use Rattle.sql_evaluation.specs.Cells.{Cell, missing, text, number}
use Rattle.sql_evaluation.specs.Values.{bytes_of}
use Rattle.sql_evaluation.specs.Evaluation.{Rows, Engine, evaluate}

-- what stands under a name: a table, of which each value must be zero or not; or a view
pub data Held : Type 0 where
  table : Bool → Rows → Held
  view : Query → Held

abbrev pub State : Type 0
State = List ℕ → Option Held

abbrev pub Cast : Type 0
Cast = List ℕ → Option ℤ

-- ---- what a query finds
abbrev pub rows_of_table : Option Held → Option Rows
rows_of_table None = None
rows_of_table (Some (table zeros rows)) = Some rows
rows_of_table (Some (view q)) = None

-- a view is a query over tables
abbrev pub rows_found : Cast → State → Option Held → Option Rows
rows_found cast state None = None
rows_found cast state (Some (table zeros rows)) = Some rows
rows_found cast state (Some (view q)) =
    evaluate (record { tables = λ name. rows_of_table (state name); cast = cast }) q

abbrev pub engine_at : Cast → State → Engine
engine_at cast state = record { tables = λ name. rows_found cast state (state name); cast = cast }

-- ---- changes
abbrev pub with_name : List ℕ → Option Held → State → State
with_name name held state other = if bytes_eq other name then held else state other

-- under a name that is free
abbrev pub made : List ℕ → Held → State → Option State
made name held state = if is_some (state name) then None else Some (with_name name (Some held) state)

-- the columns of a table that is created
abbrev pub column_names : List Element → List (List ℕ)
column_names [] = []
column_names (column_definition name type nullable ∷ es) = bytes_of name ∷ column_names es
column_names (primary_key names ∷ es) = column_names es
column_names (unique_key names ∷ es) = column_names es
column_names (foreign_key names other ∷ es) = column_names es

-- a check is broken where it is false, so not by a missing value
abbrev pub is_zero : Cell → Bool
is_zero missing = true
is_zero (text t) = false
is_zero (number n) = int_eq n (pos 0)

abbrev pub all_zeros : List (List Cell) → Bool
all_zeros rows = list_all (list_all is_zero) rows

-- more rows, of as many columns; the check of a table holds of them
abbrev pub both_rows : Rows → Rows → Rows
both_rows old new = record { names = old.names; rows = old.rows ++ new.rows }

abbrev pub with_rows : Bool → Rows → Rows → Option Held
with_rows zeros old new =
    if not (length old.names == length new.names) then None
    else if zeros then (if all_zeros new.rows then Some (table zeros (both_rows old new)) else None)
    else Some (table zeros (both_rows old new))

abbrev pub filled : Option Held → Rows → Option Held
filled None new = None
filled (Some (table zeros old)) new = with_rows zeros old new
filled (Some (view q)) new = None

abbrev pub inserted : List ℕ → State → Rows → Option State
inserted name state new = option_map (λ held. with_name name (Some held) state) (filled (state name) new)

-- the columns of a table are these, in this order
abbrev pub has_columns : List (List ℕ) → Option Held → Bool
has_columns names None = false
has_columns names (Some (table zeros rows)) = pointwise bytes_eq rows.names names
has_columns names (Some (view q)) = false

-- ---- statements
-- what a statement makes of a state; an error where it cannot be done. (Rows go into all columns of a table
-- in their order; an engine knows further reasons for an error, `Fails`)
abbrev pub done : Cast → Statement → State → Option State
done cast (remark words) state = Some state
done cast begin state = Some state
done cast commit state = Some state
done cast (create_table name elements) state =
    made name (table false (record { names = column_names elements; rows = [] })) state
done cast (create_zeros name column) state =
    made name (table true (record { names = bytes_of column ∷ []; rows = [] })) state
done cast (create_from name q) state =
    option_and_then (λ rows. made name (table false rows) state) (evaluate (engine_at cast state) q)
done cast (create_view name q) state = made name (view q) state
done cast (insert_into name columns q) state =
    if has_columns (map bytes_of columns) (state name)
    then option_and_then (inserted name state) (evaluate (engine_at cast state) q) else None
done cast (insert_all name q) state = option_and_then (inserted name state) (evaluate (engine_at cast state) q)
done cast (drop_table name) state = if is_some (state name) then Some (with_name name None state) else None
done cast (ask q) state = option_map (λ rows. state) (evaluate (engine_at cast state) q)

-- the statements that an engine refuses in a state, for whatever reason beside: a key, a reference, a value
-- that may not be missing or is of another type, a full disk
abbrev pub Fails : Type 0
Fails = Statement → State → Bool

abbrev pub tried : Fails → Cast → Statement → State → Option State
tried fails cast x state = if fails x state then None else done cast x state

-- ---- runs
-- how a run ends: with the last statement, or with an error; and what is kept of it
pub data Outcome : Type 0 where
  ended : State → Outcome
  stopped : State → Outcome

abbrev pub is_begin : Statement → Bool
is_begin begin = true
is_begin x = false

abbrev pub is_commit : Statement → Bool
is_commit commit = true
is_commit x = false

-- goes on in the state that was made, or ends with the error
abbrev pub unless_error : State → (State → Outcome) → Option State → Outcome
unless_error kept go None = stopped kept
unless_error kept go (Some state) = go state

-- a run in a state, within a transaction or not. An error undoes a transaction, and so does the end of the
-- run: `kept` is what was there before it
abbrev pub run : Fails → Cast → List Statement → Bool → State → State → Outcome
run fails cast [] within kept state = ended (if within then kept else state)
run fails cast (x ∷ xs) within kept state =
    unless_error kept
    (λ next. run fails cast xs (is_begin x || (within && not (is_commit x)))
    (if within && not (is_commit x) then kept else next) next)
    (tried fails cast x state)

-- a script, over what an engine holds
abbrev pub outcome : Fails → Cast → List Statement → State → Outcome
outcome fails cast script state = run fails cast script false state state
