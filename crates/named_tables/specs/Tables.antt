-- Tables as values: for what makes tables, for what takes them, and for the answers that have some
-- (`desk_responses/ResponseValues`).
use Rattle.std.specs.Prelude.{ℕ, Bool, List, [], ◌∷◌, ◌++◌, map}
use Rattle.dep_model.specs.Tuples.{Tuple, Relation}
use Rattle.named_tables.specs.Choices.{chosen_row}
use Rattle.named_tables.specs.declared.table.HeldTable.{HeldTable}
use Rattle.named_tables.specs.declared.table.ChosenTable.{ChosenTable}
use Rattle.named_tables.specs.declared.table.ChosenTables.{ChosenTables}

-- a table: its name, the names of its columns, whether a value of each may be missing, and its rows
pub record TableValue : Type 0 where
  pub name : List ℕ
  pub columns : List (List ℕ)
  pub nullable : List Bool
  pub rows : Relation

-- a table without rows
abbrev pub empty_table : List ℕ → List (List ℕ) → List Bool → TableValue
empty_table name columns nullable = record { name = name; columns = columns; nullable = nullable; rows = [] }

-- one row more at the end
abbrev pub with_row : Tuple → TableValue → TableValue
with_row row table = record {
  name = table.name;
  columns = table.columns;
  nullable = table.nullable;
  rows = table.rows ++ row ∷ [];
}

-- a table that is held in memory
abbrev pub held_value : HeldTable → TableValue
held_value table = record {
  name = table.name;
  columns = table.columns.items;
  nullable = table.nullable.items;
  rows = table.rows;
}

-- a table of chosen rows: the projections of the rows of these numbers
abbrev pub chosen_value : Relation → ChosenTable → TableValue
chosen_value rows table = record {
  name = table.name;
  columns = table.columns.items;
  nullable = table.nullable.items;
  rows = map (chosen_row rows table) table.chosen.items;
}

-- tables that choose from the same rows
abbrev pub chosen_values : Relation → List ChosenTable → List TableValue
chosen_values rows tables = map (chosen_value rows) tables

abbrev pub table_values : ChosenTables → List TableValue
table_values tables = chosen_values tables.rows tables.tables.items
