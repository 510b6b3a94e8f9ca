-- The primary key of a scheme: for `primary_key` and the tables of a design (`ddl_text/Designs`), and by the
-- functional dependencies alone for `functional_primary_key` and the key that a synthesis adds
-- (`synthesis_3nf/GroupedPlans`).
use Rattle.std.specs.Prelude.{ℕ, List}
use Rattle.attr_sets.specs.Attributes.{Attributes, difference}
use Rattle.attr_sets.specs.declared.narrowing.Direction.TheVariants.{Descending}
use Rattle.attr_sets.specs.Narrowing.{IsNarrowed}
use Rattle.dep_model.specs.Dependencies.{Dependency}
use Rattle.dep_model.specs.Keys.{IsSuperkey}

-- the key that is left of a scheme where first the attributes that may be missing are tried, and then the
-- others, each from the last to the first
pub record IsPrimaryKey (n : ℕ) (ds : List Dependency) (nullable scheme k : Attributes) : Type 0 where
  pub rest : Attributes
  pub nullable_first : IsNarrowed Descending (IsSuperkey n ds scheme) nullable scheme rest
  pub others_next : IsNarrowed Descending (IsSuperkey n ds scheme) (difference scheme nullable) rest k
