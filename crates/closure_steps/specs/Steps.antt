-- How the closure of a set by functional dependencies comes about, step by step: for `closure_steps`
-- and the command `closure`.
use Rattle.std.specs.Prelude.{⊤, ◌≡◌, ℕ, true, List, [], ◌∷◌, Some, All, map, slice_get, take}
use Rattle.attr_sets.specs.Attributes.{Attributes, union, difference}
use Rattle.attr_sets.specs.Sets.{attributes}
use Rattle.dep_model.specs.Dependencies.{Dependency, is_fd, right_of, LeadsOut}
use Rattle.closure_steps.specs.declared.steps.ClosureStep.{ClosureStep}

-- a `ClosureStep` as sets: the dependency at this position of a list, from 0, adds these attributes
pub record ClosureStepValue : Type 0 where
  pub position : ℕ
  pub added : Attributes

-- a functional dependency adds something to a set: its left side lies within, its right side does not
pub record Adds (c : Attributes) (d : Dependency) : Type 0 where
  pub functional : is_fd d ≡ true
  pub leads_out : LeadsOut c d

-- the first dependency of a list that adds something to a set, with what is new of its right side
pub record IsClosureStep (ds : List Dependency) (c : Attributes) (step : ClosureStepValue) : Type 0 where
  pub dependency : Dependency
  pub given : slice_get ds step.position ≡ Some dependency
  pub adds : Adds c dependency
  pub added : step.added ≡ difference (right_of dependency) c
  pub first : All (λ d. Adds c d → ⊥) (take step.position ds)

-- what is there after steps from a set on
abbrev pub reached : Attributes → List ClosureStepValue → Attributes
reached c [] = c
reached c (step ∷ later) = reached (union c step.added) later

-- each is a step from what is there by then
abbrev pub AreSteps : List Dependency → Attributes → List ClosureStepValue → Type 0
AreSteps ds c [] = ⊤
AreSteps ds c (step ∷ later) = IsClosureStep ds c step × AreSteps ds (union c step.added) later

-- the steps by which a set is closed: after the last, no functional dependency adds anything
pub record AreClosureSteps (ds : List Dependency) (x : Attributes) (steps : List ClosureStepValue) : Type 0 where
  pub each : AreSteps ds x steps
  pub done : All (λ d. Adds (reached x steps) d → ⊥) ds

-- a step of the code
abbrev pub closure_step_value : ClosureStep → ClosureStepValue
closure_step_value step = record { position = step.dep; added = attributes step.added }

abbrev pub closure_step_values : List ClosureStep → List ClosureStepValue
closure_step_values steps = map closure_step_value steps
