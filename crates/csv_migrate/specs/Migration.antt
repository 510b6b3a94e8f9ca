-- The tables of a migration, their join, and what is read back from them: for `tables`, and for `migrate` and `sample`
-- (`desk_tables/Migrations`).
use Rattle.std.specs.Prelude.{ℕ, Bool, ◌+◌, ◌↔◌, List, [], ◌∷◌, map, Contains}
use Rattle.attr_sets.specs.Attributes.{Attributes, difference}
use Rattle.attr_sets.specs.Sets.{attributes}
use Rattle.attr_sets.specs.declared.set.AttrSet.{AttrSet}
use Rattle.dep_model.specs.Tuples.{Tuple, Relation}
use Rattle.dep_model.specs.Projections.{members_below, InJoin}
use Rattle.optional_tables.specs.declared.keyed.KeyedScheme.{KeyedScheme}
use Rattle.optional_tables.specs.LookUps.{empty_values, rows_for, IsReadBack}
use Rattle.schema_model.specs.Schemas.{names_of, width_of, nullable_of}
use Rattle.schema_model.specs.Schemas.{Schema}
use Rattle.schema_printer.specs.Printing.{members_from}
use Rattle.table_names.specs.TableNames.{GivenNames, name_of_table}
use Rattle.named_tables.specs.Tables.{TableValue}
use Rattle.named_tables.specs.declared.table.ChosenTable.{ChosenTable}

-- the names of the attributes of a scheme, ascending
abbrev pub column_names : Schema → Attributes → List (List ℕ)
column_names schema scheme = members_from scheme 0 (names_of schema)

-- whether a value of each attribute of a table may be missing there, ascending: none of its key is
abbrev pub nullable_columns : Schema → KeyedScheme → List Bool
nullable_columns schema table =
    map (difference (nullable_of schema) (attributes table.key))
    (members_below (width_of schema) (attributes table.scheme))

-- the table of a scheme with a key, at a position: the attributes are the columns, and each distinct projection of the
-- rows that are complete for it stands in it once, at its first occurrence
abbrev pub table_of : Schema → GivenNames → Relation → ℕ → KeyedScheme → TableValue
table_of schema names rows position table = record {
  name = name_of_table names position;
  columns = column_names schema (attributes table.scheme);
  nullable = nullable_columns schema table;
  rows = rows_for (empty_values (nullable_of schema)) rows table;
}

-- the tables of a design, in order, from this position on
abbrev pub tables_from : Schema → GivenNames → Relation → ℕ → List KeyedScheme → List TableValue
tables_from schema names rows position [] = []
tables_from schema names rows position (table ∷ design) =
    table_of schema names rows position table ∷ tables_from schema names rows (position + 1) design

-- the tables of a migration: one of each scheme of a design, in order, with the names that are given, or else named
-- by their numbers
abbrev pub tables_of_migration : Schema → GivenNames → List KeyedScheme → Relation → List TableValue
tables_of_migration schema names design rows = tables_from schema names rows 0 design

-- the schemes of tables
abbrev pub schemes_in : List ChosenTable → List AttrSet
schemes_in tables = map (λ table. table.scheme) tables

-- the rows of each table
abbrev pub relations_of : List TableValue → List Relation
relations_of tables = map (λ table. table.rows) tables

-- a tuple is in the natural join of tables over the schemes of a plan exactly where it is in a relation
abbrev pub JoinIs : ℕ → List Attributes → List TableValue → Relation → Type 0
JoinIs n plan tables r = (t : Tuple) → InJoin n plan (relations_of tables) t ↔ Contains r t

-- a tuple is read back from the tables of a design, where those that may lack a row are looked up, exactly where it is
-- in a relation
abbrev pub ReadsBack : ℕ → Attributes → List KeyedScheme → List TableValue → Relation → Type 0
ReadsBack n nullable design tables r =
    (t : Tuple) → IsReadBack n nullable (empty_values nullable) design (relations_of tables) t ↔ Contains r t
