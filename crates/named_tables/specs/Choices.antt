-- Rows that a table chooses among others: for the tables of a migration.
use Rattle.std.specs.Prelude.{◌≡◌, ℕ, ◌<◌, length, All}
use Rattle.attr_sets.specs.Sets.{attributes}
use Rattle.dep_model.specs.Projections.{project_tuple}
use Rattle.dep_model.specs.Tuples.{Tuple, Relation}
use Rattle.row_store.specs.Rows.{row_at}
use Rattle.named_tables.specs.declared.table.ChosenTable.{ChosenTable}

-- the row of this number, as a table has it
abbrev pub chosen_row : Relation → ChosenTable → ℕ → Tuple
chosen_row rows table i = project_tuple (attributes table.scheme) (row_at rows i)

-- the rows that a table chooses are there, and have a value for each column
abbrev pub HasRows : Relation → ChosenTable → Type 0
HasRows rows table =
    All (λ i. (i < length rows) × (length (chosen_row rows table i) ≡ length table.columns.items)) table.chosen.items
