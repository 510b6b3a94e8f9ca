-- Tables that are looked up by their keys alone: for the law of what is read back from files. `Desk` does not cite it.
use Rattle.std.specs.Prelude.{◌≡◌, ℕ, true, List, [], ◌∷◌}
use Rattle.attr_sets.specs.Attributes.{Attributes, IsSubset, union}
use Rattle.attr_sets.specs.Sets.{attributes}
use Rattle.optional_tables.specs.declared.keyed.KeyedScheme.{KeyedScheme}
use Rattle.optional_tables.specs.Homes.{has_outside_key}
use Rattle.table_join.specs.Tables.{PartialRelation}

-- a table over the scheme of a keyed one
abbrev pub IsOver : KeyedScheme → PartialRelation → Type 0
IsOver keyed table = attributes keyed.scheme ≡ table.scheme

-- a table shares its key and no more with what is joined before, and whatever it has beside may be missing
pub record IsLookedUpByKey (nullable joined : Attributes) (table : KeyedScheme) : Type 0 where
  pub key : IsSubset (attributes table.key) (attributes table.scheme)
  pub within : IsSubset (attributes table.key) joined
  pub shared : (k : ℕ) → joined k ≡ true → attributes table.scheme k ≡ true → attributes table.key k ≡ true
  pub beside : (k : ℕ) → has_outside_key table k ≡ true → nullable k ≡ true

-- so does each of some tables in turn
abbrev pub AreLookedUpByKeys : Attributes → Attributes → List KeyedScheme → Type 0
AreLookedUpByKeys nullable joined [] = Unit {0}
AreLookedUpByKeys nullable joined (table ∷ tables) =
    IsLookedUpByKey nullable joined table × AreLookedUpByKeys nullable (union joined (attributes table.scheme)) tables
