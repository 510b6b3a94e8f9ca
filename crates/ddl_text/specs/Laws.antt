-- What a design promises of the tables of a legal relation, whatever values are missing: for `design` and the command
-- `ddl` (`desk_designs/Designs`).
use Rattle.std.specs.Prelude.{◌≡◌, ℕ, List, slice_get, Some, Contains}
use Rattle.attr_sets.specs.Attributes.{Attributes}
use Rattle.attr_sets.specs.Sets.{attributes}
use Rattle.dep_model.specs.Tuples.{Relation}
use Rattle.optional_tables.specs.LookUps.{Missing, rows_for}
use Rattle.schema_model.specs.Schemas.{LegalFor}
use Rattle.schema_model.specs.Schemas.{Schema}
use Rattle.ddl_text.specs.declared.table.TableDesign.{TableDesign}
use Rattle.ddl_text.specs.Designs.{keyed, known_keys}
use Rattle.ddl_text.specs.KeysAndReferences.{KeyHolds, ReferenceHolds}

-- the rows of a table: the projections on its scheme of the tuples that miss no value of its key
abbrev pub rows_on : Missing → TableDesign → Relation → Relation
rows_on missing table r = rows_for missing r (keyed table)

-- in the tables of every legal relation each key holds
abbrev pub KeysHold : Schema → List TableDesign → Type 0
KeysHold s tables =
    (missing : Missing) (r : Relation) → LegalFor s r → (table : TableDesign) → Contains tables table
    → KeyHolds (attributes table.scheme) (rows_on missing table r) (attributes table.key)

-- in the tables of every legal relation each other key of a table holds
abbrev pub OtherKeysHold : Schema → List TableDesign → Type 0
OtherKeysHold s tables =
    (missing : Missing) (r : Relation) → LegalFor s r → (table : TableDesign) → Contains tables table
    → (key : Attributes) → Contains (known_keys table.other_keys) key
    → KeyHolds (attributes table.scheme) (rows_on missing table r) key

-- in the tables of every legal relation each reference holds, for the rows that miss none of its columns
abbrev pub ReferencesHold : Schema → List TableDesign → Type 0
ReferencesHold s tables =
    (missing : Missing) (r : Relation) → LegalFor s r → (table other : TableDesign) (j : ℕ)
    → Contains tables table → Contains table.refs.items j → slice_get tables j ≡ Some other
    → ReferenceHolds missing (attributes table.scheme) (rows_on missing table r) (attributes other.scheme)
    (rows_on missing other r) (attributes other.key)
