-- What the loop of `diagnostics` keeps: the diagnostics of the dependencies so far are had.
use Rattle.dep_model.specs.Theories.{width_of, theory_of}
use Rattle.cover_accounts.specs.CheckGathering.{AreCoverDiagnosticsBefore}
use Rattle.cover_accounts.proofs.checking.diagnostics.Given as goal

abbrev pub invariant-loop-k : goal.invariant-loop-k
invariant-loop-k l = AreCoverDiagnosticsBefore l.form (width_of l.theory) (theory_of l.theory) l.k 0 l.found.items
