-- The faults that are planned for an object in memory: for the objects that tests use. `Desk` does
-- not cite it.
use Rattle.std.specs.Prelude.{◌≡◌, ℕ, ◌≤◌, Bool, if◌then◌else◌, List, [], Contains}
use Rattle.desk_outside.specs.Causes.{count_on}

-- the numbers, from 1, of the calls that fail, and how many calls and how many faults there were
pub record FaultPlan : Type 0 where
  pub fails : List ℕ
  pub calls : ℕ
  pub faults : ℕ

-- no call was made yet
abbrev pub new_plan : List ℕ → FaultPlan
new_plan fails = record { fails = fails; calls = 0; faults = 0 }

-- the number of the next call is among those that fail
abbrev pub FailsNext : FaultPlan → Type 0
FailsNext plan = Contains plan.fails (count_on plan.calls 1)

-- no call is planned to fail
abbrev pub NeverFails : FaultPlan → Type 0
NeverFails plan = plan.fails ≡ []

-- one call more, and one fault more where it is one
pub record CountsCall (old new : FaultPlan) (is_fault : Bool) : Type 0 where
  pub fails : new.fails ≡ old.fails
  pub calls : new.calls ≡ count_on old.calls 1
  pub faults : new.faults ≡ (if is_fault then count_on old.faults 1 else old.faults)

-- one fault more, and no call
pub record CountsFault (old new : FaultPlan) : Type 0 where
  pub fails : new.fails ≡ old.fails
  pub calls : new.calls ≡ old.calls
  pub faults : new.faults ≡ count_on old.faults 1
  pub later : old.faults ≤ new.faults
