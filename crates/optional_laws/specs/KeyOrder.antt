-- The order of sets in which a primary key comes first: for the laws of this crate. `Desk` does not cite it.
use Rattle.std.specs.Prelude.{◌≡◌, ◌⊎◌, ℕ, List}
use Rattle.attr_sets.specs.Attributes.{Attributes, below, intersection, IsBefore, IsSubset}
use Rattle.attr_sets.specs.Sets.{attributes}
use Rattle.dep_model.specs.Dependencies.{Dependency}
use Rattle.primary_keys.specs.PrimaryKeys.{IsPrimaryKey}
use Rattle.optional_tables.specs.declared.keyed.KeyedScheme.{KeyedScheme}

-- a set has less that may be missing than another, by the order of sets, or as much, and comes before it
abbrev pub IsLess : Attributes → Attributes → Attributes → Type 0
IsLess nullable x y =
    IsBefore (intersection x nullable) (intersection y nullable)
    ⊎ ((intersection x nullable ≡ intersection y nullable) × IsBefore x y)

-- the key of a table is the primary key of its scheme, which lies within the universe
pub record HasPrimaryKey (n : ℕ) (ds : List Dependency) (nullable : Attributes) (table : KeyedScheme) : Type 0 where
  pub universe : IsSubset (attributes table.scheme) (below n)
  pub key : IsPrimaryKey n ds nullable (attributes table.scheme) (attributes table.key)
