-- What is left to prove of `load`: what a missing file and too long a file are, by `LoadFacts`.
use Rattle.std.proofs.Common.{ℕ, inl, subst}
use Rattle.desk_outside.specs.declared.failure.LoadRefusal.TheVariants.{TooLong}
use Rattle.desk_outside.specs.declared.failure.OutsideFault.TheVariants.{Failed}
use Rattle.desk_outside.specs.Causes.{ErrorCountIncreased}
use Rattle.desk_outside.proofs.LoadFacts.{no_error, that_error, other_error, not_over, none_over}
use Rattle.desk_outside.proofs.transfer.load.Goals as goal

pub returns-in_err-count-clause-missing : goal.returns-in_err-count-clause-missing
returns-in_err-count-clause-missing g c = λ m. absurd (no_error _ Failed (c.in_ok-begin.ensures.cause.missing m).0)

pub returns-then-count-eq0-clause-missing : goal.returns-then-count-eq0-clause-missing
returns-then-count-eq0-clause-missing g c = λ m. absurd (no_error _ Failed (c.in_ok-begin.ensures.cause.missing m).0)

pub returns-then-len-count-clause-missing : goal.returns-then-len-count-clause-missing
returns-then-len-count-clause-missing g c = λ m. absurd (no_error _ Failed (c.in_ok-begin.ensures.cause.missing m).0)

pub returns-in_err-extend_from_slice-clause-missing : goal.returns-in_err-extend_from_slice-clause-missing
returns-in_err-extend_from_slice-clause-missing g c = λ m. absurd (no_error _ Failed (c.in_ok-begin.ensures.cause.missing m).0)

pub returns-in_err-count-clause-cannot_read : goal.returns-in_err-count-clause-cannot_read
returns-in_err-count-clause-cannot_read g c = λ _.
    inl (subst (λ (n : ℕ). ErrorCountIncreased n (g.F.FileSource.faults c.read.new.self)) c.loop-bytes.invariant.fine c.in_err-count.ensures.cause.failed)

pub returns-in_err-count-clause-too_long : goal.returns-in_err-count-clause-too_long
returns-in_err-count-clause-too_long g c = (
  (λ e. absurd (other_error _ (that_error _ _ c.from_residual-in_err-count.ensures.1) e)),
  (λ over. absurd (not_over _ _ _ _ c.in_err-count.ensures.kept c.loop-bytes.invariant.taken c.loop-bytes.invariant.within over)),
)

pub returns-then-count-eq0-clause-too_long : goal.returns-then-count-eq0-clause-too_long
returns-then-count-eq0-clause-too_long g c = (
  (λ e. absurd (no_error _ TooLong e)),
  (λ over. absurd (none_over _ _ _ _ _ c.in_ok-count.ensures.taken c.if-count-eq0.true c.loop-bytes.invariant.taken c.loop-bytes.invariant.within over)),
)
