-- Designs whose tables can be read back: for the refusals of designs that cannot, and for the law of what is read back.
use Rattle.std.specs.Prelude.{◌≡◌, ℕ, true, List, slice_get, IsSomeAnd, Contains}
use Rattle.attr_sets.specs.Attributes.{Attributes}
use Rattle.optional_tables.specs.declared.keyed.KeyedScheme.{KeyedScheme}
use Rattle.optional_tables.specs.Homes.{is_optional, has_outside_key, has_home}

-- the table at a position has an attribute outside its key
abbrev pub IsHomeAt : List KeyedScheme → ℕ → ℕ → Type 0
IsHomeAt tables a j = IsSomeAnd (slice_get tables j) (λ table. has_outside_key table a ≡ true)

-- exactly one table is a home of an attribute
pub record HasOneHome (tables : List KeyedScheme) (a : ℕ) : Type 0 where
  pub home : ℕ
  pub is_home : IsHomeAt tables a home
  pub only : (j : ℕ) → IsHomeAt tables a j → j ≡ home

-- an optional table can be looked up: whatever it has beside its key may be missing, and it has a home
pub record CanBeLookedUp (nullable : Attributes) (tables : List KeyedScheme) (table : KeyedScheme) : Type 0 where
  pub beside : (a : ℕ) → has_outside_key table a ≡ true → nullable a ≡ true
  pub home : has_home nullable tables table ≡ true

-- each attribute of which a value may be missing has exactly one home, and each optional table can be looked up
pub record IsReadable (nullable : Attributes) (tables : List KeyedScheme) : Type 0 where
  pub homes : (a : ℕ) → nullable a ≡ true → HasOneHome tables a
  pub looked_up : (table : KeyedScheme) → Contains tables table → is_optional nullable table ≡ true
      → CanBeLookedUp nullable tables table
