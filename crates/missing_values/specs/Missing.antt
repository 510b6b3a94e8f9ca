-- Attributes of which a value may be missing, in tables that cannot be read back: for `missing_refusal`, and for the
-- commands that refuse such designs.
use Rattle.std.specs.Prelude.{ℕ, List, Option, Some, None, slice_get, IsSomeAnd}
use Rattle.attr_sets.specs.Attributes.{Attributes, intersection, IsFirstFrom}
use Rattle.attr_sets.specs.Sets.{attributes}
use Rattle.optional_tables.specs.declared.keyed.KeyedScheme.{KeyedScheme}
use Rattle.optional_tables.specs.Hindrances.{IsFirstShared, IsFirstStuck, IsStuckAt, IsUnhindered}
use Rattle.missing_values.specs.declared.refusal.MissingRefusal.{MissingRefusal}
use Rattle.missing_values.specs.declared.refusal.MissingRefusal.TheVariants.{InKey, InTwo}

-- the least attribute of the key of the table at a position of which a value may be missing
abbrev pub IsLeastInKey : Attributes → List KeyedScheme → ℕ → ℕ → Type 0
IsLeastInKey nullable tables k a =
    IsSomeAnd (slice_get tables k) (λ table. IsFirstFrom (intersection (attributes table.key) nullable) 0 a)

-- what is found first: the first optional table that cannot be looked up; where there is none, the first table that is
-- a home of an attribute of which an earlier table is one too
abbrev pub FindsMissing : Attributes → List KeyedScheme → Option MissingRefusal → Type 0
FindsMissing nullable tables None = IsUnhindered nullable tables
FindsMissing nullable tables (Some (InKey a k)) = IsFirstStuck nullable tables k × IsLeastInKey nullable tables k a
FindsMissing nullable tables (Some (InTwo a j k)) =
    ((m : ℕ) → IsStuckAt nullable tables m → ⊥) × IsFirstShared nullable tables j k a
