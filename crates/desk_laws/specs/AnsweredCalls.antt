-- When words are answered, as the laws of `complete` say it: the commands on schemas, goals, certificates, rows
-- and designs that `complete` names. `Desk` does not cite it.
use Rattle.std.specs.Prelude.{ℕ, List, [], ◌∷◌, codes}
use Rattle.dep_model.specs.Dependencies.{Dependency}
use Rattle.dep_model.specs.Tuples.{Relation}
use Rattle.schema_model.specs.Schemas.{Schema, theory_in}
use Rattle.derivation.specs.Trees.{Tree}
use Rattle.key_listing.specs.Refusals.{IsTooWide}
use Rattle.plan_printer.specs.NamedPlans.{NamedSchemes}
use Rattle.desk_outside.specs.Files.{Files}
use Rattle.desk_inputs.specs.FileKinds.{IsFile}
use Rattle.desk_inputs.specs.Inputs.{schema_file, proof_file}
use Rattle.desk_arguments.specs.Goals.{IsGoal}
use Rattle.desk_designs.specs.Joins.{IsTooLarge}
use Rattle.desk_keys.specs.Keys.{HasManyKeys}
use Rattle.desk_inputs.specs.Plans.{plan_file}
use Rattle.desk_inputs.specs.Readings.{known_files}
use Rattle.desk_inputs.specs.Rows.{rows_file}
use Rattle.desk_laws.specs.Completeness.{IsAnswered}

-- `implies` is answered where the schema file means a schema and the goal a dependency
abbrev pub ImpliesIsAnswered : Type 0
ImpliesIsAnswered =
    (files : Files) (name goal : List ℕ) (schema : Schema) (dep : Dependency)
    → IsFile schema_file (known_files files) name schema → IsGoal schema goal dep
    → IsAnswered files (codes "implies" ∷ name ∷ goal ∷ [])

-- `check proof` is answered where also the certificate file spells a tree
abbrev pub CheckProofIsAnswered : Type 0
CheckProofIsAnswered =
    (files : Files) (name file goal : List ℕ) (schema : Schema) (tree : Tree) (dep : Dependency)
    → IsFile schema_file (known_files files) name schema → IsFile (proof_file schema) (known_files files) file tree
    → IsGoal schema goal dep
    → IsAnswered files (codes "check" ∷ codes "proof" ∷ name ∷ file ∷ goal ∷ [])

-- `check rows` is answered where the schema file means a schema and the CSV file rows
abbrev pub CheckRowsIsAnswered : Type 0
CheckRowsIsAnswered =
    (files : Files) (name file : List ℕ) (schema : Schema) (rows : Relation)
    → IsFile schema_file (known_files files) name schema → IsFile (rows_file schema) (known_files files) file rows
    → IsAnswered files (codes "check" ∷ codes "rows" ∷ name ∷ file ∷ [])

-- `check join` is answered where the schema file means a schema, the plan file a plan, and the chase comes to no
-- tableau of too many rows
abbrev pub CheckJoinIsAnswered : Type 0
CheckJoinIsAnswered =
    (files : Files) (name file : List ℕ) (schema : Schema) (plan : NamedSchemes)
    → IsFile schema_file (known_files files) name schema → IsFile (plan_file schema) (known_files files) file plan
    → (IsTooLarge schema plan.schemes → ⊥)
    → IsAnswered files (codes "check" ∷ codes "join" ∷ name ∷ file ∷ [])

-- `cover` is answered where the schema file means a schema
abbrev pub CoverIsAnswered : Type 0
CoverIsAnswered =
    (files : Files) (name : List ℕ) (schema : Schema) → IsFile schema_file (known_files files) name schema
    → IsAnswered files (codes "cover" ∷ name ∷ [])

-- `cover canonical` is answered where the schema file means a schema
abbrev pub CoverCanonicalIsAnswered : Type 0
CoverCanonicalIsAnswered =
    (files : Files) (name : List ℕ) (schema : Schema) → IsFile schema_file (known_files files) name schema
    → IsAnswered files (codes "cover" ∷ codes "canonical" ∷ name ∷ [])

-- `keys` is answered where also the universe is not too wide, and has no more keys than are listed
abbrev pub KeysIsAnswered : Type 0
KeysIsAnswered =
    (files : Files) (name : List ℕ) (schema : Schema) → IsFile schema_file (known_files files) name schema
    → (IsTooWide (theory_in schema) → ⊥) → (HasManyKeys schema → ⊥)
    → IsAnswered files (codes "keys" ∷ name ∷ [])

-- `synthesize` is answered where the schema file means a schema
abbrev pub SynthesizeIsAnswered : Type 0
SynthesizeIsAnswered =
    (files : Files) (name : List ℕ) (schema : Schema) → IsFile schema_file (known_files files) name schema
    → IsAnswered files (codes "synthesize" ∷ name ∷ [])

-- `help`, `--help`, `-h` and `--version` are answered over any files (`help`)
abbrev pub HelpIsAnsweredHelp : Type 0
HelpIsAnsweredHelp =
    (files : Files) → IsAnswered files (codes "help" ∷ [])

-- `help`, `--help`, `-h` and `--version` are answered over any files (`long`)
abbrev pub HelpIsAnsweredLong : Type 0
HelpIsAnsweredLong =
    (files : Files) → IsAnswered files (codes "--help" ∷ [])

-- `help`, `--help`, `-h` and `--version` are answered over any files (`dash_h`)
abbrev pub HelpIsAnsweredDashH : Type 0
HelpIsAnsweredDashH =
    (files : Files) → IsAnswered files (codes "-h" ∷ [])

-- `help`, `--help`, `-h` and `--version` are answered over any files (`version`)
abbrev pub HelpIsAnsweredVersion : Type 0
HelpIsAnsweredVersion =
    (files : Files) → IsAnswered files (codes "--version" ∷ [])
