-- What keeps the tables of a design from being read back: for the refusals of such designs (`missing_values`).
use Rattle.std.specs.Prelude.{◌≡◌, ◌↔◌, ◌<◌, ℕ, true, List, slice_get, IsSomeAnd}
use Rattle.attr_sets.specs.Attributes.{Attributes}
use Rattle.optional_tables.specs.declared.keyed.KeyedScheme.{KeyedScheme}
use Rattle.optional_tables.specs.Homes.{is_optional}
use Rattle.optional_tables.specs.Readable.{CanBeLookedUp, IsHomeAt}

-- the table at a position is optional, and cannot be looked up
abbrev pub IsStuckAt : Attributes → List KeyedScheme → ℕ → Type 0
IsStuckAt nullable tables k =
    IsSomeAnd (slice_get tables k)
    (λ table. (is_optional nullable table ≡ true) × (CanBeLookedUp nullable tables table → ⊥))

-- it is the first such table
pub record IsFirstStuck (nullable : Attributes) (tables : List KeyedScheme) (k : ℕ) : Type 0 where
  pub here : IsStuckAt nullable tables k
  pub first : (j : ℕ) → j < k → IsStuckAt nullable tables j → ⊥

-- a table and a later one are homes of an attribute of which a value may be missing
pub record IsSharedAt (nullable : Attributes) (tables : List KeyedScheme) (j k a : ℕ) : Type 0 where
  pub missing : nullable a ≡ true
  pub before : j < k
  pub earlier : IsHomeAt tables a j
  pub later : IsHomeAt tables a k

-- the attribute is the least such one of the later table, and the earlier table is the first home of it
pub record IsLeastShared (nullable : Attributes) (tables : List KeyedScheme) (j k a : ℕ) : Type 0 where
  pub here : IsSharedAt nullable tables j k a
  pub least : (i b : ℕ) → b < a → IsSharedAt nullable tables i k b → ⊥
  pub first : (i : ℕ) → i < j → IsSharedAt nullable tables i k a → ⊥

-- and the later table is the first of which that is so
pub record IsFirstShared (nullable : Attributes) (tables : List KeyedScheme) (j k a : ℕ) : Type 0 where
  pub found : IsLeastShared nullable tables j k a
  pub first : (i m b : ℕ) → m < k → IsSharedAt nullable tables i m b → ⊥

-- nothing keeps tables from being read back, where they have all attributes of which a value may be missing
pub record IsUnhindered (nullable : Attributes) (tables : List KeyedScheme) : Type 0 where
  pub stuck : (k : ℕ) → IsStuckAt nullable tables k → ⊥
  pub shared : (j k a : ℕ) → IsSharedAt nullable tables j k a → ⊥

-- the attributes of which the tables before a position are homes
abbrev pub AreHomesBefore : List KeyedScheme → ℕ → Attributes → Type 0
AreHomesBefore tables k x = (a : ℕ) → (x a ≡ true) ↔ ((j : ℕ) × (j < k) × IsHomeAt tables a j)
