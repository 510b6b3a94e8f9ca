-- What is said of a refusal carries over to what follows from it.
use Rattle.std.proofs.Common.{◌≡◌, subst, Result, Ok, Err}
use Rattle.dep_model.specs.Failures.{RefusesAs}
use Rattle.dep_model.specs.declared.failure.Failure.{Failure}
use Rattle.dep_model.specs.declared.failure.Failure.TheVariants.{Refused, OutOfMemory}
use Rattle.std.specs.Prelude.{IfOk}

pub refuses_also : {R : Type 0} (P Q : R → Type 0) (e : Failure R) → ((refusal : R) → P refusal → Q refusal)
    → RefusesAs P e → RefusesAs Q e
refuses_also P Q (Refused refusal) follows h = follows refusal h
refuses_also P Q OutOfMemory follows h = tt

pub refused_is : {R : Type 0} (P : R → Type 0) (e : Failure R) (refusal : R) → e ≡ Refused refusal → RefusesAs P e
    → P refusal
refused_is P e refusal is h = subst (RefusesAs P) is h

-- two facts of the value of an outcome
pub IfOk_both : {A E : Type 0} {P Q R : A → Type 0} (r : Result A E) → IfOk r P → IfOk r Q → ((x : A) → P x → Q x → R x) → IfOk r R
IfOk_both (Ok x) first second both = both x first second
IfOk_both (Err e) first second both = tt
