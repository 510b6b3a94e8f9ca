-- Files of tables that would be written over files that are read: for `migrate`.
use Rattle.std.specs.Prelude.{ℕ, ◌<◌, ◌==◌, ◌||◌, Bool, if◌then◌else◌, List, [], ◌∷◌, ◌++◌, codes, drop, length, IsTrue}
use Rattle.std.specs.List.{starts_with}
use Rattle.attr_sets.specs.Attributes.{Attributes}
use Rattle.schema_model.specs.Names.{same_name}
use Rattle.dep_model.specs.Plans.{schemes_of}
use Rattle.dep_model.specs.Tuples.{Relation}
use Rattle.schema_model.specs.Schemas.{Schema}
use Rattle.dep_model.specs.declared.form.Form.{Form}
use Rattle.table_names.specs.TableNames.{GivenNames, name_of_table}
use Rattle.desk_designs.specs.Decompositions.{WithPlanInForm}
use Rattle.desk_designs.specs.Designs.{WithoutMissing}
use Rattle.desk_responses.specs.declared.status.Status.TheVariants.{Refused}
use Rattle.desk_responses.specs.ResponseValues.{Allowed, Says, Unless}
use Rattle.desk_tables.specs.Migrations.{MigratesPlan, MigratesRows}
use Rattle.desk_texts.specs.Texts.{line}

-- ---- names
-- a name without `./` before it
abbrev pub plain_name : List ℕ → List ℕ
plain_name name = if starts_with (λ a b. a == b) name (codes "./") then drop 2 name else name

-- whether a name is that of a file of a table, the case of letters aside
abbrev pub is_file_of : List ℕ → List ℕ → Bool
is_file_of table name = same_name name (table ++ codes ".csv") || same_name name (table ++ codes ".sql")

-- a name is that of a file of one of so many tables, to which these names are given
abbrev pub IsTableFile : GivenNames → ℕ → List ℕ → Type 0
IsTableFile names tables name =
    (i : ℕ) × (i < tables) × IsTrue (is_file_of (name_of_table names i) (plain_name name))

-- ---- answers
abbrev pub written_over_text : List ℕ → List ℕ
written_over_text file = line (codes "refused: " ++ file ++ codes " would be written over")

-- a file that is read would be written over
abbrev pub OverStops : GivenNames → ℕ → List ℕ → Allowed
OverStops names tables file response = IsTableFile names tables file × Says Refused (written_over_text file) response

-- none of the files that are read would be written over by so many tables; the first that would decides
abbrev pub KeepsFiles : GivenNames → ℕ → List (List ℕ) → Allowed → Allowed
KeepsFiles names tables [] rest = rest
KeepsFiles names tables (file ∷ files) rest =
    Unless (OverStops names tables file) (IsTableFile names tables file → ⊥) (KeepsFiles names tables files rest)

-- rows as tables in a normal form, in files beside those that are read
abbrev pub MigratesHere : Schema → Form → List (List ℕ) → Relation → Allowed
MigratesHere schema form files rows =
    WithPlanInForm schema form
    (λ plan. WithoutMissing schema [] (schemes_of plan)
    (KeepsFiles [] (length (schemes_of plan)) files (MigratesRows schema [] (schemes_of plan) rows)))

-- the same as tables of a plan
abbrev pub MigratesPlanHere : Schema → GivenNames → List Attributes → List (List ℕ) → Relation → Allowed
MigratesPlanHere schema names plan files rows =
    WithoutMissing schema names plan (KeepsFiles names (length plan) files (MigratesPlan schema names plan rows))
