-- SQL scripts over a table of the user's: for `sql check`, `sql measure` and `sql migrate`.
use Rattle.std.specs.Prelude.{◌≡◌, ◌↔◌, ℕ, IsTrue, List, [], ◌++◌, codes, Some, None, length}
use Rattle.attr_sets.specs.Attributes.{Attributes}
use Rattle.attr_sets.specs.declared.set.AttrSet.{AttrSet}
use Rattle.dep_model.specs.Plans.{schemes_of}
use Rattle.schema_model.specs.Schemas.{width_of, LegalFor}
use Rattle.dep_model.specs.Tuples.{Relation, IsOver}
use Rattle.schema_model.specs.Schemas.{Schema}
use Rattle.table_names.specs.TableNames.{GivenNames}
use Rattle.ddl_text.specs.declared.table.TableDesign.{TableDesign}
use Rattle.dep_model.specs.declared.form.Form.{Form}
use Rattle.sql_evaluation.specs.Cells.{Cell}
use Rattle.sql_evaluation.specs.Evaluation.{Engine}
use Rattle.sql_evaluation.specs.Running.{State, Cast, Fails, engine_at, ended, stopped, outcome}
use Rattle.sql_migrate.specs.Script.{migration}
use Rattle.sql_migrate_laws.specs.Moved.{HasMoved, LeavesOthers}
use Rattle.sql_migrate_laws.specs.Ending.{IsSoundRun}
use Rattle.sql_check_laws.specs.HeldRelations.{Holds, CastsIntegers}
use Rattle.sql_check_laws.specs.CheckedRules.{NoBreachShown, RulesHold, NothingShown}
use Rattle.sql_measure_laws.specs.Measured.{MeasuresRules}
use Rattle.sql_scripts.specs.Checking.{check_text, NothingBreaks}
use Rattle.sql_scripts.specs.Measuring.{measure_text}
use Rattle.sql_scripts.specs.Migrating.{migrate_text, FillsTables, ViewIsTable}
use Rattle.sql_scripts.specs.Naming.{is_table_name, met_name, quoted_table}
use Rattle.desk_responses.specs.declared.status.Status.TheVariants.{Yes, Refused}
use Rattle.desk_responses.specs.Lines.{bad_table_text}
use Rattle.desk_responses.specs.ResponseValues.{Allowed, Says, Unless}
use Rattle.desk_texts.specs.Texts.{line}
use Rattle.desk_designs.specs.Decompositions.{WithPlanInForm}
use Rattle.desk_designs.specs.Designs.{IsSoundDesign, WithoutMissing}
use Rattle.desk_designs.specs.Joins.{WithoutLoss}

-- ---- names
-- how the name of a table ends a command: where it is none
abbrev pub TableNameStops : List ℕ → Allowed
TableNameStops name response = (IsTrue (is_table_name name) → ⊥) × Says Refused bad_table_text response

-- a word names a table, and then the rest follows
abbrev pub WithTableName : List ℕ → Allowed → Allowed
WithTableName name = Unless (TableNameStops name) (IsTrue (is_table_name name))

-- the refusal of a word whose last part is the name of a table that is made
abbrev pub met_table_text : List ℕ → List ℕ
met_table_text met = line (codes "refused: bad table name " ++ met)

-- how it ends a command that makes tables with names: where its last part is one of these, the case of letters aside
abbrev pub MetNameStops : GivenNames → List ℕ → Allowed
MetNameStops names name response =
    (met : List ℕ) × (met_name names name ≡ Some met) × Says Refused (met_table_text met) response

-- a word names a table other than those with these names, and then the rest follows
abbrev pub WithOtherName : GivenNames → List ℕ → Allowed → Allowed
WithOtherName names name rest =
    WithTableName name
    (Unless (MetNameStops names name) (met_name names name ≡ None) rest)

-- ---- checking
-- what the queries of a script for a table show: over a relation, the terms for the dependencies of a
-- schema give nothing exactly where it is legal; and where an engine holds a relation as this table, their
-- queries end without an error, and give no row exactly where it is legal. Where the engine casts integers,
-- no query of the script gives a row, and none ends with an error, exactly where all rules hold
pub record TellLegal (schema : Schema) (table : List ℕ) : Type 0 where
  pub terms : (r : Relation) → IsOver (width_of schema) r → LegalFor schema r ↔ NothingBreaks schema r
  pub queries : (e : Engine) (cell : ℕ → List ℕ → Cell) (r : Relation) → Holds e table schema cell r
      → IsOver (width_of schema) r → LegalFor schema r ↔ NoBreachShown e schema table
  pub script : (e : Engine) (cell : ℕ → List ℕ → Cell) (r : Relation) → Holds e table schema cell r
      → IsOver (width_of schema) r → CastsIntegers e.cast → RulesHold schema cell r ↔ NothingShown e schema table

-- yes, with the queries for what breaks each rule
abbrev pub AsksTable : Schema → List ℕ → Allowed
AsksTable schema name response =
    TellLegal schema (quoted_table name) × Says Yes (check_text schema (quoted_table name)) response

abbrev pub ScriptsCheck : Schema → List ℕ → Allowed
ScriptsCheck schema name = WithTableName name (AsksTable schema name)

-- ---- measuring
-- what the queries of a script for a table count: where an engine holds a relation as this table, its
-- tuples as often as they stand, the query of each dependency ends without an error; it gives no row
-- exactly where the relation obeys the dependency, and else one row with the numbers of the
-- relation's measure against it
abbrev pub CountsBreaches : Schema → List ℕ → Type 0
CountsBreaches schema table =
    (e : Engine) (cell : ℕ → List ℕ → Cell) (r : Relation) → Holds e table schema cell r
    → IsOver (width_of schema) r → MeasuresRules e schema table r

-- yes, with the queries that count what breaks each rule
abbrev pub MeasuresTable : Schema → List ℕ → Allowed
MeasuresTable schema name response =
    CountsBreaches schema (quoted_table name)
    × Says Yes (measure_text schema (quoted_table name)) response

abbrev pub ScriptsMeasure : Schema → List ℕ → Allowed
ScriptsMeasure schema name = WithTableName name (MeasuresTable schema name)

-- ---- migrating
-- what a script that makes tables does. In an engine that holds a relation as this table, whatever it refuses,
-- a run without an error has moved the relation into the tables, its table has no other columns, and all else is as
-- it was; any other run has changed nothing. Over a legal relation what fills each table are its rows, of the tuples
-- that miss no value of its key, and where the plan loses nothing the join of all tables is the relation; and where the
-- design can be read back, a run over tuples that are tidy ends without an error in an engine that refuses only what
-- breaks a rule
pub record IsSoundScript (schema : Schema) (table : List ℕ) (tables : List TableDesign) : Type 0 where
  pub fills : FillsTables schema tables
  pub view : ViewIsTable schema tables
  pub moves : (fails : Fails) (cast : Cast) (cell : ℕ → List ℕ → Cell) (r : Relation) (start last : State)
      → Holds (engine_at cast start) table schema cell r
      → outcome fails cast (migration schema table tables) start ≡ ended last
      → HasMoved schema cast cell r tables last
  pub whole : (fails : Fails) (cast : Cast) (cell : ℕ → List ℕ → Cell) (r : Relation) (start last : State)
      (holds : Holds (engine_at cast start) table schema cell r)
      → outcome fails cast (migration schema table tables) start ≡ ended last
      → length holds.given.names ≡ width_of schema
  pub leaves : (fails : Fails) (cast : Cast) (cell : ℕ → List ℕ → Cell) (r : Relation) (start last : State)
      → Holds (engine_at cast start) table schema cell r
      → outcome fails cast (migration schema table tables) start ≡ ended last → LeavesOthers tables start last
  pub undoes : (fails : Fails) (cast : Cast) (start kept : State)
      → outcome fails cast (migration schema table tables) start ≡ stopped kept → kept ≡ start
  pub ends : (fails : Fails) (cast : Cast) (cell : ℕ → List ℕ → Cell) (r : Relation) (start : State)
      → IsSoundRun fails cast schema table cell r tables start
      → (last : State) × (outcome fails cast (migration schema table tables) start ≡ ended last)

-- yes, with the statements that make the tables of a design from the user's
abbrev pub MakesDesign : Schema → List ℕ → List TableDesign → Allowed
MakesDesign schema name tables response =
    IsSoundScript schema (quoted_table name) tables
    × Says Yes (migrate_text schema (quoted_table name) tables) response

-- the same of a plan
abbrev pub MakesTables : Schema → GivenNames → List ℕ → List AttrSet → Allowed
MakesTables schema names name plan response =
    (tables : List TableDesign) × IsSoundDesign schema names plan tables × MakesDesign schema name tables response

-- the same of the plan of a normal form
abbrev pub ScriptsMigration : Schema → Form → List ℕ → Allowed
ScriptsMigration schema form name =
    WithTableName name (WithPlanInForm schema form
    (λ plan. WithoutMissing schema [] (schemes_of plan) (MakesTables schema [] name plan)))

-- the same of schemes, as sets of attributes
abbrev pub MakesSchemes : Schema → GivenNames → List ℕ → List Attributes → Allowed
MakesSchemes schema names name schemes response =
    (plan : List AttrSet) × (schemes_of plan ≡ schemes) × MakesTables schema names name plan response

-- the same of a plan, where it loses nothing
abbrev pub ScriptsMigrationByPlan : Schema → GivenNames → List Attributes → List ℕ → Allowed
ScriptsMigrationByPlan schema names schemes name =
    WithOtherName names name (WithoutMissing schema names schemes
    (WithoutLoss schema schemes (MakesSchemes schema names name schemes)))
