-- What a call of an object in memory did, by whether its number was planned: its count, its cause and its answer.
use Rattle.std.proofs.Common.{arith, ◌≡◌, ◌↔◌, ℕ, Bool, true, false, IsTrue, Result, Ok, Err, IsErrOf, refl, sym, ap, ◌∙◌}
use Rattle.desk_outside.specs.declared.failure.OutsideFault.TheVariants.{Failed}
use Rattle.desk_outside.specs.Causes.{count_on, HasOutsideCause}
use Rattle.desk_outside.specs.Planned.{FaultPlan, CountsCall, CountsFault}

not_failed : {T E : Type 0} (v : T) (f : E) → ◌≡◌ {A = Result T E} (Ok v) (Err f) → ⊥
not_failed v f e = cc

untrue : false ≡ true → ⊥
untrue e = cc

-- a call that was counted, and then its fault
pub call_and_fault : (old called new : FaultPlan) → CountsCall old called false → CountsFault called new → CountsCall old new true
call_and_fault old called new call fault = record {
  fails = fault.fails ∙ call.fails;
  calls = fault.calls ∙ call.calls;
  faults = fault.faults ∙ ap (λ (n : ℕ). count_on n 1) call.faults;
}

pub cause_of_fault : {T : Type 0} (old called new : FaultPlan) → CountsCall old called false → CountsFault called new → HasOutsideCause {T = T} old.faults new.faults (Err Failed)
cause_of_fault old called new call fault =
    let same : called.faults ≡ old.faults = call.faults in
    let later = fault.later in
    let more : new.faults ≡ count_on old.faults 1 = fault.faults ∙ ap (λ (n : ℕ). count_on n 1) call.faults in
    record { later = omega arith; fine = tt; failed = λ _. omega arith }

pub no_cause : {T : Type 0} (old new : FaultPlan) (v : T) → CountsCall old new false → HasOutsideCause old.faults new.faults (Ok v)
no_cause old new v call =
    let same : new.faults ≡ old.faults = call.faults in
    record { later = omega arith; fine = same; failed = λ e. absurd (not_failed v Failed e) }

-- the answer, by whether the call was to fail
pub failed_as_planned : {T P : Type 0} (b : Bool) → (IsTrue b ↔ P) → b ≡ true → IsErrOf {T = T} (Err Failed) Failed ↔ P
failed_as_planned b says is = (λ _. says.0 is, λ _. refl)

pub fine_as_planned : {T P : Type 0} (b : Bool) (v : T) → (IsTrue b ↔ P) → b ≡ false → IsErrOf (Ok v) Failed ↔ P
fine_as_planned b v says is = (λ e. absurd (not_failed v Failed e), λ planned. absurd (untrue (sym is ∙ says.1 planned)))

-- a call that did not fail, and so the one that it stands in
pub fine_within : {T U P : Type 0} (v : T) (w : U) → (IsErrOf (Ok v) Failed ↔ P) → IsErrOf (Ok w) Failed ↔ P
fine_within v w says = (λ e. absurd (not_failed w Failed e), λ planned. absurd (not_failed v Failed (says.1 planned)))

pub no_cause_within : {T U : Type 0} (before now : ℕ) (v : T) (w : U) → HasOutsideCause before now (Ok v) → HasOutsideCause before now (Ok w)
no_cause_within before now v w cause = record {
  later = cause.later;
  fine = cause.fine;
  failed = λ e. absurd (not_failed w Failed e);
}
