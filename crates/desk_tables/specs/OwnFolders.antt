-- Rows as tables in a folder of their own: for `migrate .. into`.
use Rattle.std.specs.Prelude.{◌≡◌, ℕ, Bool, true, false, List, [], ◌++◌, codes, IsTrue}
use Rattle.attr_sets.specs.Attributes.{Attributes}
use Rattle.attr_sets.specs.declared.set.AttrSet.{AttrSet}
use Rattle.dep_model.specs.Plans.{schemes_of}
use Rattle.dep_model.specs.Tuples.{Relation}
use Rattle.schema_model.specs.Schemas.{Schema}
use Rattle.ddl_text.specs.Ddl.{ddl_text}
use Rattle.table_names.specs.TableNames.{GivenNames}
use Rattle.ddl_text.specs.declared.table.TableDesign.{TableDesign}
use Rattle.dep_model.specs.declared.form.Form.{Form}
use Rattle.desk_designs.specs.Decompositions.{WithPlanInForm}
use Rattle.desk_designs.specs.Designs.{IsSoundDesign, WithoutMissing}
use Rattle.desk_designs.specs.Joins.{WithoutLoss}
use Rattle.desk_responses.specs.declared.status.Status.TheVariants.{Refused}
use Rattle.desk_responses.specs.ResponseValues.{Allowed, OwnFolder, ResponseValue, Says, Unless, in_own_folder}
use Rattle.desk_tables.specs.Migrations.{MigratesRows}
use Rattle.desk_texts.specs.Texts.{line}

-- which answers a look at a name may have: whether nothing has it, or an empty folder alone
abbrev pub Looks : Type 0
Looks = List ℕ → Bool → Bool

-- a look at a name has one answer
abbrev pub HasOneLook : Looks → Type 0
HasOneLook looks = (name : List ℕ) → IsTrue (looks name true) → IsTrue (looks name false) → ⊥

abbrev pub not_empty_text : List ℕ → List ℕ
not_empty_text folder = line (codes "refused: " ++ folder ++ codes " is not an empty folder")

-- something has the name that is no empty folder
abbrev pub FolderStops : Looks → List ℕ → Allowed
FolderStops looks folder response = IsTrue (looks folder false) × Says Refused (not_empty_text folder) response

-- the folder of this name, with the statements of a sound design of a plan, whose tables have these names
pub record IsFolderOf (schema : Schema) (names : GivenNames) (plan : List AttrSet) (name : List ℕ) (folder : OwnFolder)
    : Type 0 where
  pub named : folder.name ≡ name
  pub tables : List TableDesign
  pub sound : IsSoundDesign schema names plan tables
  pub script : folder.script ≡ ddl_text schema tables

-- an answer whose tables, if it has any, are for the folder of a plan
abbrev pub InFolder : Schema → GivenNames → List AttrSet → List ℕ → Allowed → Allowed
InFolder schema names plan name answers response =
    (folder : OwnFolder) × IsFolderOf schema names plan name folder
    × ((plain : ResponseValue) × answers plain × (response ≡ in_own_folder folder plain))

-- rows as tables of a plan that loses nothing, in a folder of their own
abbrev pub MigratesRowsInto : Schema → GivenNames → List AttrSet → List ℕ → Relation → Allowed
MigratesRowsInto schema names plan folder rows =
    InFolder schema names plan folder (MigratesRows schema names (schemes_of plan) rows)

-- rows as tables in a normal form, in a folder of their own
abbrev pub MigratesInto : Looks → Schema → Form → List ℕ → Relation → Allowed
MigratesInto looks schema form folder rows =
    WithPlanInForm schema form
    (λ plan. WithoutMissing schema [] (schemes_of plan)
    (Unless (FolderStops looks folder) (IsTrue (looks folder true)) (MigratesRowsInto schema [] plan folder rows)))

-- the same of schemes, as sets of attributes
abbrev pub MigratesSchemesInto : Schema → GivenNames → List Attributes → List ℕ → Relation → Allowed
MigratesSchemesInto schema names schemes folder rows response =
    (plan : List AttrSet) × (schemes_of plan ≡ schemes) × MigratesRowsInto schema names plan folder rows response

-- rows as tables of a plan, where it loses nothing, in a folder of their own
abbrev pub MigratesPlanInto : Looks → Schema → GivenNames → List Attributes → List ℕ → Relation → Allowed
MigratesPlanInto looks schema names plan folder rows =
    WithoutMissing schema names plan (Unless (FolderStops looks folder) (IsTrue (looks folder true))
    (WithoutLoss schema plan (MigratesSchemesInto schema names plan folder rows)))
