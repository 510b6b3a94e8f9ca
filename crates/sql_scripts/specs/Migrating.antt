-- The script that makes the tables of a plan from the user's table: for `migrate_script` and `sql
-- migrate` (`desk_scripts/Scripts`).
use Rattle.std.specs.Prelude.{◌↔◌, ℕ, List, ◌++◌, map, codes, Contains}
use Rattle.attr_sets.specs.Sets.{attributes}
use Rattle.schema_model.specs.Schemas.{Schema}
use Rattle.dep_model.specs.Projections.{IsLossless}
use Rattle.schema_model.specs.Schemas.{width_of, theory_of, LegalFor}
use Rattle.dep_model.specs.Tuples.{Tuple, Relation}
use Rattle.optional_tables.specs.LookUps.{Missing, complete_tuples, rows_for}
use Rattle.ddl_text.specs.Designs.{keyed}
use Rattle.ddl_text.specs.declared.table.TableDesign.{TableDesign}
use Rattle.sql_syntax.specs.Printing.{item_text, query_text}
use Rattle.sql_syntax.specs.Statements.{remark, begin, create_from, statement_text, script_text}
use Rattle.relation_queries.specs.Queries.{StoredTable, rows_of, plan_join, table_beyond_view, view_beyond_table}
use Rattle.relation_queries.specs.Meanings.{IsGiven, GivesNone}
use Rattle.sql_migrate.specs.declared.moving.Move.{Move}
use Rattle.sql_migrate.specs.Moving.{moved_at}
use Rattle.sql_migrate.specs.Script.{copy_name, view_name, copy_query, fill, width_query, table_rows, viewed_rows}
use Rattle.sql_migrate.specs.Script.{migration}

-- the text of a column
abbrev pub moved_text : Schema → Move → ℕ → List ℕ
moved_text s move k = item_text (moved_at s move k)

-- the statements before the tables
abbrev pub opening_text : Schema → List ℕ → List ℕ
opening_text s table =
    statement_text (remark (codes
    "all of it or nothing, where the first error ends it: psql -v ON_ERROR_STOP=1, sqlite3 -bail"))
    ++ statement_text begin ++ statement_text (create_from copy_name (copy_query s table))

-- the statement that fills a table
abbrev pub fill_text : Schema → TableDesign → List ℕ
fill_text s table = statement_text (fill s table)

-- the statements of the test, from the queries of which it takes or counts the rows
abbrev pub width_text : List ℕ → List ℕ
width_text query =
    codes "CREATE TEMPORARY TABLE \"t00\" (n BIGINT CHECK (n = 0));\n"
    ++ codes "-- an error here: the table has other columns than the schema\n"
    ++ codes "INSERT INTO \"t00\" " ++ query ++ codes ";\n"

abbrev pub test_words : List ℕ
test_words = codes "-- an error here undoes all: the view would lack a row of the table, or have one more\n"

abbrev pub count_text : List ℕ → List ℕ
count_text query = codes "INSERT INTO \"t00\" SELECT COUNT(*) FROM (" ++ query ++ codes ") AS d;\n"

abbrev pub test_end : List ℕ
test_end = codes "DROP TABLE \"t00\";\nDROP TABLE \"t0\";\nCOMMIT;\n"

abbrev pub lacked_text : Schema → List ℕ → List ℕ
lacked_text s table = query_text (table_rows s table) ++ codes " EXCEPT " ++ query_text (viewed_rows s)

abbrev pub gained_text : Schema → List ℕ → List ℕ
gained_text s table = query_text (viewed_rows s) ++ codes " EXCEPT " ++ query_text (table_rows s table)

abbrev pub testing_text : Schema → List ℕ → List ℕ
testing_text s table =
    width_text (query_text (width_query s table)) ++ test_words ++ count_text (lacked_text s table)
    ++ count_text (gained_text s table) ++ test_end

-- the whole script: its statements, as a text
abbrev pub migrate_text : Schema → List ℕ → List TableDesign → List ℕ
migrate_text s table tables = script_text (migration s table tables)

-- ---- what is asked for, as terms over relations
-- a table of a design, by its name and its scheme
abbrev pub stored_of : TableDesign → StoredTable
stored_of table = record { name = table.name; scheme = attributes table.scheme }

abbrev pub stored_tables : List TableDesign → List StoredTable
stored_tables tables = map stored_of tables

-- what fills each table, from the tuples that miss no value of its key, are its rows
abbrev pub FillsTables : Schema → List TableDesign → Type 0
FillsTables s designs =
    (missing : Missing) (r : Relation) → LegalFor s r → (design : TableDesign) → Contains designs design
    → (u : Tuple) → IsGiven (width_of s) (rows_of (stored_of design)) (complete_tuples missing (keyed design) r) u
    ↔ Contains (rows_for missing r (keyed design)) u

-- where the plan loses nothing, the join of all tables, which is the view where none of them is optional, is on a legal
-- relation this relation, and neither lacks a row
pub record ViewIs (s : Schema) (designs : List TableDesign) (r : Relation) : Type 0 where
  pub rows : (t : Tuple) → IsGiven (width_of s) (plan_join (stored_tables designs)) r t ↔ Contains r t
  pub table_lacks : GivesNone (width_of s) (view_beyond_table view_name (stored_tables designs)) r
  pub view_lacks : GivesNone (width_of s) (table_beyond_view view_name (stored_tables designs)) r

abbrev pub ViewIsTable : Schema → List TableDesign → Type 0
ViewIsTable s designs =
    IsLossless (width_of s) (theory_of s) (map (λ design. attributes design.scheme) designs)
    → (r : Relation) → LegalFor s r → ViewIs s designs r
