-- What a set determines without one of its attributes: for `closures_without` and the command
-- `check key`.
use Rattle.std.specs.Prelude.{◌≡◌, ℕ, ◌<◌, ◌↔◌, true, List, All, AllPairs, Any}
use Rattle.attr_sets.specs.Attributes.{Attributes, only, difference}
use Rattle.attr_sets.specs.Sets.{attributes}
use Rattle.dep_model.specs.Dependencies.{Dependency}
use Rattle.dep_model.specs.Keys.{InClosure}
use Rattle.closure_steps.specs.declared.without.Without.{Without}

-- an attribute of a set, with the closed set of the others
pub record IsClosureWithout (n : ℕ) (ds : List Dependency) (x : Attributes) (without : Without) : Type 0 where
  pub member : x without.attribute ≡ true
  pub closed : (a : ℕ) → (attributes without.closed a ≡ true)
      ↔ InClosure n ds (difference x (only without.attribute)) a

-- exactly the attributes of a set, ascending, each with the closed set of the others
pub record AreClosuresWithout (n : ℕ) (ds : List Dependency) (x : Attributes) (found : List Without) : Type 0 where
  pub each : All (IsClosureWithout n ds x) found
  pub all : (a : ℕ) → x a ≡ true → Any (λ without. without.attribute ≡ a) found
  pub ascending : AllPairs (λ one other. one.attribute < other.attribute) found
