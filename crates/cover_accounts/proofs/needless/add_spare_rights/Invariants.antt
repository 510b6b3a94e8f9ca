-- What the loop of `add_spare_rights` keeps: the diagnostics of the attributes so far are had.
use Rattle.std.proofs.Common.{◌+◌}
use Rattle.attr_sets.specs.declared.set.TheConstants.{MOST_ATTRIBUTES}
use Rattle.dep_model.specs.Theories.{width_of, theory_of}
use Rattle.cover_accounts.specs.declared.diagnostic.CoverForm.TheVariants.{Canonical}
use Rattle.cover_accounts.specs.CheckGathering.{AreCoverDiagnosticsBefore}
use Rattle.cover_accounts.proofs.needless.add_spare_rights.Given as goal

abbrev pub invariant-loop-attribute : goal.invariant-loop-attribute
invariant-loop-attribute l =
    AreCoverDiagnosticsBefore Canonical (width_of l.theory) (theory_of l.theory) l.k (1 + (MOST_ATTRIBUTES + l.attribute)) l.found.items
