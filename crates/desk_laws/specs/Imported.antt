-- What `import` makes of a file that holds what `ddl` printed: for the laws of `imported`. `Desk` does not cite it.
use Rattle.std.specs.Prelude.{◌≡◌, ℕ, IsTrue, List, [], ◌∷◌, codes, slice_get, All, Some}
use Rattle.attr_sets.specs.declared.set.AttrSet.{AttrSet}
use Rattle.ddl_text.specs.declared.table.TableDesign.{TableDesign}
use Rattle.schema_model.specs.Schemas.{types_of}
use Rattle.schema_model.specs.Schemas.{Schema}
use Rattle.import_laws.specs.ImportedTables.{imported_table}
use Rattle.import_laws.specs.ReadTables.{named}
use Rattle.import_laws.specs.StatedTypes.{states_a_type}
use Rattle.plan_printer.specs.NamedPlans.{NamedSchemes}
use Rattle.dep_model.specs.declared.form.Form.{Form}
use Rattle.schema_grammar.specs.Schemas.{MeansSchema}
use Rattle.sql_definitions.specs.Wanted.{wanted_table}
use Rattle.sql_lexemes.specs.declared.dialect.Dialect.{Dialect}
use Rattle.sql_lexemes.specs.declared.dialect.Dialect.TheVariants.{Sqlite, Postgres}
use Rattle.desk_cli.specs.Performs.{Answers}
use Rattle.desk_designs.specs.Decompositions.{IsPlanInForm}
use Rattle.desk_designs.specs.Designs.{IsDesignOf, IsSoundDesign}
use Rattle.desk_inputs.specs.FileKinds.{IsFile}
use Rattle.desk_inputs.specs.Inputs.{schema_file}
use Rattle.desk_inputs.specs.Plans.{plan_file}
use Rattle.desk_inputs.specs.Readings.{known_files}
use Rattle.desk_outside.specs.Files.{Files}
use Rattle.desk_responses.specs.ResponseValues.{ResponseValue, Says}
use Rattle.desk_responses.specs.declared.status.Status.TheVariants.{Yes}
use Rattle.desk_tables.specs.OwnFolders.{Looks}

-- the words that ask for a table of a file of SQL
abbrev pub import_words : Dialect → List ℕ → List ℕ → List (List ℕ)
import_words Sqlite file table = codes "import" ∷ codes "sqlite" ∷ file ∷ table ∷ []
import_words Postgres file table = codes "import" ∷ codes "postgres" ∷ file ∷ table ∷ []

-- yes, with a text that means the schema which is imported of a table
abbrev pub IsImported : Dialect → Schema → TableDesign → ResponseValue → Type 0
IsImported dialect schema table response =
    (text : List ℕ) × (lines : List ℕ) × Says Yes text response
    × MeansSchema text (imported_table dialect schema table lines)

-- a word asks for the table that has it as its name: no dot stands in it
abbrev pub IsAskedByName : TableDesign → Type 0
IsAskedByName table = wanted_table table.name ≡ Some (named table.name)

-- of a file of SQL each table is imported by its name, where each type of the schema is stated by its text
abbrev pub AreImported : Looks → Files → List ℕ → Schema → List TableDesign → Type 0
AreImported looks files file schema tables =
    (dialect : Dialect) (k : ℕ) (table : TableDesign) (response : ResponseValue)
    → All (λ column. IsTrue (states_a_type dialect column)) (types_of schema)
    → slice_get tables k ≡ Some table → IsAskedByName table
    → Answers looks (known_files files) (import_words dialect file table.name) response
    → IsImported dialect schema table response

-- the tables of a plan, whose schema and plan stand in files, are imported of a file of SQL
pub record PlanIsImported (looks : Looks) (before after : Files) (schema_name plan_name file : List ℕ)
    : Type 0 where
  pub schema : Schema
  pub declared : IsFile schema_file (known_files before) schema_name schema
  pub plan : NamedSchemes
  pub planned : IsFile (plan_file schema) (known_files before) plan_name plan
  pub tables : List TableDesign
  pub design : IsDesignOf schema plan.names plan.schemes tables
  pub imported : AreImported looks after file schema tables

-- the tables of the plan of a normal form, whose schema stands in a file, have their numbers as names, and are
-- imported
-- of a file of SQL
pub record FormIsImported (looks : Looks) (before after : Files) (form : Form) (schema_name file : List ℕ)
    : Type 0 where
  pub schema : Schema
  pub declared : IsFile schema_file (known_files before) schema_name schema
  pub plan : List AttrSet
  pub planned : IsPlanInForm schema form plan
  pub tables : List TableDesign
  pub design : IsSoundDesign schema [] plan tables
  pub named : All IsAskedByName tables
  pub imported : AreImported looks after file schema tables
