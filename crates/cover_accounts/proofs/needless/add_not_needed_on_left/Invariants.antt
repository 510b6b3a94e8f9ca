-- What the loop of `add_not_needed_on_left` keeps: the diagnostics of the attributes so far are had.
use Rattle.std.proofs.Common.{◌+◌}
use Rattle.dep_model.specs.Theories.{width_of, theory_of}
use Rattle.cover_accounts.specs.declared.diagnostic.CoverForm.{CoverForm}
use Rattle.cover_accounts.specs.CheckGathering.{AreCoverDiagnosticsBefore}
use Rattle.cover_accounts.proofs.needless.add_not_needed_on_left.Given as goal

abbrev pub invariant-loop-attribute : goal.invariant-loop-attribute
invariant-loop-attribute l =
    (form : CoverForm) → AreCoverDiagnosticsBefore form (width_of l.theory) (theory_of l.theory) l.k 1 l.fn.found.items
    → AreCoverDiagnosticsBefore form (width_of l.theory) (theory_of l.theory) l.k (1 + l.attribute) l.found.items
