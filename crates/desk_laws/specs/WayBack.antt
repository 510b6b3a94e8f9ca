-- The files of a migration, given to `rejoin`: for the law of the way there and back. `Desk` does not cite it.
use Rattle.std.specs.Prelude.{◌≡◌, ℕ, true, List, ◌∷◌, Ok, codes, IsPermutation}
use Rattle.std.specs.List.{AllZip}
use Rattle.attr_sets.specs.Attributes.{Attributes}
use Rattle.csv_rows.specs.Reading.{RowsOf}
use Rattle.dep_model.specs.Plans.{IsPlan}
use Rattle.dep_model.specs.Tuples.{Relation}
use Rattle.schema_model.specs.Schemas.{LegalFor, Schema, width_of}
use Rattle.table_names.specs.TableNames.{GivenNames}
use Rattle.named_tables.specs.Tables.{TableValue}
use Rattle.destinations.specs.Formats.{table_text}
use Rattle.destinations.specs.declared.format.TableFormat.TheVariants.{Csv}
use Rattle.desk_outside.specs.Files.{Files}
use Rattle.desk_responses.specs.ResponseValues.{ResponseValue}
use Rattle.desk_inputs.specs.FileKinds.{IsFile}
use Rattle.desk_inputs.specs.Inputs.{schema_file}
use Rattle.desk_inputs.specs.Readings.{IsContent, known_files}
use Rattle.desk_inputs.specs.declared.rows.TheConstants.{MOST_CSV_BYTES}
use Rattle.desk_words.specs.Forms.{are_one_to_64}
use Rattle.desk_designs.specs.Designs.{AreReadable}
use Rattle.desk_designs.specs.Joins.{LosesNothing}
use Rattle.desk_tables.specs.Migrations.{AreTablesOf}
use Rattle.desk_tables.specs.OwnFolders.{Looks}
use Rattle.desk_tables.specs.Tidiness.{AreTidy}
use Rattle.desk_cli.specs.Performs.{Answers}
use Rattle.plan_laws.specs.Rejoined.{SaysTheRows}

-- a file of no more bytes than are read holds the CSV text of a table
abbrev pub HoldsTable : Files → List ℕ → TableValue → Type 0
HoldsTable files name table = IsContent (known_files files) name MOST_CSV_BYTES (table_text Csv table)

-- files of these names hold the CSV texts of tables, each once, in whatever order
pub record HoldTables (files : Files) (names : List (List ℕ)) (tables : List TableValue) : Type 0 where
  pub in_order : List TableValue
  pub moved : IsPermutation tables in_order
  pub each : AllZip (HoldsTable files) names in_order

-- rows were read from a CSV text, and are legal; they are migrated by a plan that loses nothing, to tables that can be
-- read back and lose no value
pub record AreMigrated (schema : Schema) (names : GivenNames) (plan : List Attributes) (text : List ℕ) (rows : Relation)
    (tables : List TableValue) : Type 0 where
  pub read : RowsOf schema text (Ok rows)
  pub legal : LegalFor schema rows
  pub planned : IsPlan (width_of schema) plan
  pub lossless : LosesNothing schema plan
  pub readable : AreReadable schema names plan
  pub tidy : AreTidy schema plan rows
  pub are : AreTablesOf schema names plan rows tables

-- where files hold the schema that was migrated and the tables, `rejoin` of them says the rows
abbrev pub FilesAreRejoined : Type 0
FilesAreRejoined =
    (files : Files) (looks : Looks) (name : List ℕ) (others : List (List ℕ)) (schema : Schema) (names : GivenNames)
    (plan : List Attributes) (text : List ℕ) (rows : Relation) (tables : List TableValue) (response : ResponseValue)
    → AreMigrated schema names plan text rows tables → IsFile schema_file (known_files files) name schema
    → HoldTables files others tables → are_one_to_64 others ≡ true
    → Answers looks (known_files files) (codes "rejoin" ∷ name ∷ others) response → SaysTheRows schema rows response
