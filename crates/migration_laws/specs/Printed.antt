-- Answers of `sql migrate` whose script ends without an error: for the laws of what it prints. `Desk` does not cite it.
use Rattle.std.specs.Prelude.{◌≡◌, ℕ, List}
use Rattle.dep_model.specs.Tuples.{Relation}
use Rattle.schema_model.specs.Schemas.{Schema}
use Rattle.ddl_text.specs.declared.table.TableDesign.{TableDesign}
use Rattle.sql_evaluation.specs.Cells.{Cell}
use Rattle.sql_evaluation.specs.Running.{State, Cast, Fails, ended, outcome}
use Rattle.sql_migrate.specs.Script.{migration}
use Rattle.sql_scripts.specs.Migrating.{migrate_text}
use Rattle.sql_scripts.specs.Naming.{quoted_table}
use Rattle.desk_responses.specs.ResponseValues.{ResponseValue, Says}
use Rattle.desk_responses.specs.declared.status.Status.TheVariants.{Yes}
use Rattle.migration_laws.specs.Ready.{HoldsSoundRows, NamesAreFree, IsFairEngine}

-- the script of a design ends without an error in each fair engine that holds sound rows as a table, where the names
-- that it gives are free
abbrev pub EndsWherever : Schema → List ℕ → List TableDesign → Type 0
EndsWherever s table tables =
    (fails : Fails) (cast : Cast) (cell : ℕ → List ℕ → Cell) (r : Relation) (start : State)
    → HoldsSoundRows cast s table cell r tables start → NamesAreFree start tables
    → IsFairEngine fails cast (migration s table tables)
    → (last : State) × (outcome fails cast (migration s table tables) start ≡ ended last)

-- an answer is the text of such a script
abbrev pub EndsInFairEngines : Schema → List ℕ → ResponseValue → Type 0
EndsInFairEngines s name response =
    (tables : List TableDesign) × EndsWherever s (quoted_table name) tables
    × Says Yes (migrate_text s (quoted_table name) tables) response
