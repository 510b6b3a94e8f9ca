-- When the script of `sql migrate` ends without an error, whatever design is printed: for the law of such runs. `Desk`
-- does not cite it.
use Rattle.std.specs.Prelude.{◌≡◌, ◌<◌, ◌^◌, ℕ, None, List, length, map, All, AllPairs, Contains}
use Rattle.attr_sets.specs.Attributes.{IsSubset}
use Rattle.attr_sets.specs.Sets.{attributes}
use Rattle.attr_sets.specs.declared.set.AttrSet.{AttrSet}
use Rattle.dep_model.specs.Plans.{schemes_of}
use Rattle.dep_model.specs.Tuples.{Relation}
use Rattle.schema_model.specs.declared.column_type.ColumnType.TheVariants.{Integer}
use Rattle.schema_model.specs.Schemas.{Schema, width_of, universe_of, nullable_of, LegalFor}
use Rattle.optional_tables.specs.Hindrances.{IsUnhindered}
use Rattle.optional_tables.specs.LookUps.{IsTidyFor}
use Rattle.table_names.specs.TableNames.{GivenNames}
use Rattle.plan_printer.specs.NamedPlans.{AreApart}
use Rattle.ddl_text.specs.Designs.{keyed}
use Rattle.ddl_text.specs.declared.table.TableDesign.{TableDesign}
use Rattle.sql_syntax.specs.Names.{quoted_name}
use Rattle.sql_syntax.specs.Statements.{Statement}
use Rattle.sql_check.specs.Columns.{type_at}
use Rattle.sql_check_laws.specs.CheckedRules.{NoneMissing, AreIntegers}
use Rattle.sql_check_laws.specs.HeldRelations.{compared_cell, Holds, CastsIntegers}
use Rattle.sql_evaluation.specs.Cells.{Cell}
use Rattle.sql_evaluation.specs.Rules.{RefusesBroken}
use Rattle.sql_evaluation.specs.Running.{State, Cast, Fails, engine_at}
use Rattle.sql_migrate.specs.Script.{copy_name, view_name, test_name}
use Rattle.sql_migrate_laws.specs.Ending.{NamesDiffer, AreComparable}
use Rattle.sql_migrate_laws.specs.Moved.{missing_cells}
use Rattle.desk_designs.specs.Designs.{IsSoundDesign}
use Rattle.desk_designs.specs.Joins.{LosesNothing}

-- ---- a design
-- the names of tables differ from one another and from those that a script gives
pub record HaveOwnNames (tables : List TableDesign) : Type 0 where
  pub not_copy : (t : TableDesign) → Contains tables t → quoted_name t.name ≡ copy_name → ⊥
  pub not_view : (t : TableDesign) → Contains tables t → quoted_name t.name ≡ view_name → ⊥
  pub not_test : (t : TableDesign) → Contains tables t → quoted_name t.name ≡ test_name → ⊥
  pub differ : AllPairs NamesDiffer tables

-- what is printed: the sound design of a plan that loses nothing, in which nothing keeps it from being read back, with
-- names apart
pub record IsPrinted (s : Schema) (names : GivenNames) (plan : List AttrSet) (tables : List TableDesign) : Type 0 where
  pub within : All (λ scheme. IsSubset (attributes scheme) (universe_of s)) plan
  pub sound : IsSoundDesign s names plan tables
  pub unhindered : IsUnhindered (nullable_of s) (map keyed tables)
  pub lossless : LosesNothing s (schemes_of plan)
  pub apart : AreApart names
  pub few : length tables < 2 ^ 64

-- ---- a state
-- the names that a script gives are free
pub record NamesAreFree (start : State) (tables : List TableDesign) : Type 0 where
  pub copy : start copy_name ≡ None
  pub view : start view_name ≡ None
  pub test : start test_name ≡ None
  pub each : (t : TableDesign) → Contains tables t → start (quoted_name t.name) ≡ None

-- a table without other columns holds a legal relation: no value is missing that may not be, the integers are integers,
-- a tuple that is not complete for a table of the design misses all that the table has beside its key, and any two
-- values of a column can be compared
pub record HoldsSoundRows (cast : Cast) (s : Schema) (name : List ℕ) (cell : ℕ → List ℕ → Cell) (r : Relation)
    (tables : List TableDesign) (start : State) : Type 0 where
  pub holds : Holds (engine_at cast start) name s cell r
  pub whole : length holds.given.names ≡ width_of s
  pub legal : LegalFor s r
  pub none_missing : NoneMissing s cell r
  pub integers : (k : ℕ) → k < width_of s → type_at s k ≡ Integer → AreIntegers (compared_cell cell) r k
  pub tidy : (t : TableDesign) → Contains tables t → IsTidyFor (missing_cells s cell) r (keyed t)
  pub comparable : AreComparable s cell r

-- ---- an engine
-- it casts integers, and of the statements of a script refuses only what breaks a rule of a table
pub record IsFairEngine (fails : Fails) (cast : Cast) (script : List Statement) : Type 0 where
  pub casts : CastsIntegers cast
  pub refuses : RefusesBroken cast script fails
