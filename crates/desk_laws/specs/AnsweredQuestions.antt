-- When words are answered, as the laws of `complete_questions` say it: questions about a schema. `Desk` does not
-- cite it.
use Rattle.std.specs.Prelude.{ℕ, List, [], ◌∷◌, codes, All}
use Rattle.attr_sets.specs.Attributes.{Attributes, IsEmpty}
use Rattle.attr_sets.specs.declared.set.AttrSet.{AttrSet}
use Rattle.dep_model.specs.Dependencies.{Dependency}
use Rattle.schema_model.specs.Schemas.{width_of, theory_of}
use Rattle.schema_model.specs.Schemas.{Schema}
use Rattle.key_listing.specs.Listing.{AreManyKeys}
use Rattle.fd_closure.specs.LeftSides.{IsWideScheme}
use Rattle.fd_projection.specs.Refusals.{AreTooMany}
use Rattle.schema_match.specs.Columns.{SameNames}
use Rattle.plan_printer.specs.NamedPlans.{NamedSchemes}
use Rattle.desk_outside.specs.Files.{Files}
use Rattle.desk_inputs.specs.FileKinds.{IsFile}
use Rattle.desk_inputs.specs.Inputs.{schema_file}
use Rattle.desk_arguments.specs.Goals.{IsSetText}
use Rattle.desk_inputs.specs.Plans.{plan_file}
use Rattle.desk_inputs.specs.Readings.{known_files}
use Rattle.desk_laws.specs.Completeness.{IsAnswered}

-- `basis` is answered where the schema file means a schema and the text a set
abbrev pub BasisIsAnswered : Type 0
BasisIsAnswered =
    (files : Files) (name set : List ℕ) (schema : Schema) (x : Attributes)
    → IsFile schema_file (known_files files) name schema → IsSetText schema set x
    → IsAnswered files (codes "basis" ∷ name ∷ set ∷ [])

-- `closure` is answered where the schema file means a schema and the text a set
abbrev pub ClosureIsAnswered : Type 0
ClosureIsAnswered =
    (files : Files) (name set : List ℕ) (schema : Schema) (x : Attributes)
    → IsFile schema_file (known_files files) name schema → IsSetText schema set x
    → IsAnswered files (codes "closure" ∷ name ∷ set ∷ [])

-- `project` is answered where the schema file means a schema and the text a set, which has an attribute, is not
-- too wide, and inside which no more dependencies than are listed have a least left side
abbrev pub ProjectIsAnswered : Type 0
ProjectIsAnswered =
    (files : Files) (name set : List ℕ) (schema : Schema) (x : Attributes)
    → IsFile schema_file (known_files files) name schema → IsSetText schema set x
    → (IsEmpty x → ⊥) → (IsWideScheme (theory_of schema) x → ⊥)
    → ((found : List Dependency) → AreTooMany (width_of schema) (theory_of schema) x found → ⊥)
    → IsAnswered files (codes "project" ∷ name ∷ set ∷ [])

-- `check key` is answered where the schema file means a schema and the text a set
abbrev pub CheckKeyIsAnswered : Type 0
CheckKeyIsAnswered =
    (files : Files) (name set : List ℕ) (schema : Schema) (x : Attributes)
    → IsFile schema_file (known_files files) name schema → IsSetText schema set x
    → IsAnswered files (codes "check" ∷ codes "key" ∷ name ∷ set ∷ [])

-- `keys` of a plan is answered where the schema file means a schema, the plan file a plan, and each scheme of
-- the plan is not too wide and has no more keys than are listed
abbrev pub KeysOfPlanIsAnswered : Type 0
KeysOfPlanIsAnswered =
    (files : Files) (name file : List ℕ) (schema : Schema) (plan : NamedSchemes)
    → IsFile schema_file (known_files files) name schema → IsFile (plan_file schema) (known_files files) file plan
    → All (λ scheme. IsWideScheme (theory_of schema) scheme → ⊥) plan.schemes
    → All (λ scheme. (found : List AttrSet)
    → AreManyKeys (width_of schema) (theory_of schema) scheme found → ⊥) plan.schemes
    → IsAnswered files (codes "keys" ∷ name ∷ file ∷ [])

-- `check same` is answered where the two schema files mean schemas over the same names
abbrev pub CheckSameIsAnswered : Type 0
CheckSameIsAnswered =
    (files : Files) (name other_name : List ℕ) (schema other : Schema)
    → IsFile schema_file (known_files files) name schema → IsFile schema_file (known_files files) other_name other
    → SameNames schema other
    → IsAnswered files (codes "check" ∷ codes "same" ∷ name ∷ other_name ∷ [])

-- `check cover` is answered where the two schema files mean schemas over the same names
abbrev pub CheckCoverIsAnswered : Type 0
CheckCoverIsAnswered =
    (files : Files) (name other_name : List ℕ) (schema other : Schema)
    → IsFile schema_file (known_files files) name schema → IsFile schema_file (known_files files) other_name other
    → SameNames schema other
    → IsAnswered files (codes "check" ∷ codes "cover" ∷ name ∷ other_name ∷ [])

-- `check cover canonical` is answered where the two schema files mean schemas over the same names
abbrev pub CheckCoverCanonicalIsAnswered : Type 0
CheckCoverCanonicalIsAnswered =
    (files : Files) (name other_name : List ℕ) (schema other : Schema)
    → IsFile schema_file (known_files files) name schema → IsFile schema_file (known_files files) other_name other
    → SameNames schema other
    → IsAnswered files (codes "check" ∷ codes "cover" ∷ codes "canonical" ∷ name ∷ other_name ∷ [])
