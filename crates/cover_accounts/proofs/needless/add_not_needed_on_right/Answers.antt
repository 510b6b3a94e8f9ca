-- What is left to prove of `add_not_needed_on_right`: that a minimal cover is asked nothing of this.
use Rattle.std.proofs.Common.{◌≡◌, ◌+◌, sym, subst, arith}
use Rattle.attr_sets.specs.declared.set.TheConstants.{MOST_ATTRIBUTES}
use Rattle.dep_model.specs.Theories.{width_of, theory_of}
use Rattle.cover_accounts.specs.declared.diagnostic.CoverForm.{CoverForm}
use Rattle.cover_accounts.specs.declared.diagnostic.CoverForm.TheVariants.{Minimal}
use Rattle.cover_accounts.specs.CheckGathering.{AreCoverDiagnosticsBefore}
use Rattle.cover_accounts.proofs.GatheringLemmas.{schema_within, schema_narrow, gather_past, no_right_of_minimal}
use Rattle.cover_accounts.proofs.needless.add_not_needed_on_right.Goals as goal

pub returns-in-Minimal : goal.returns-in-Minimal
returns-in-Minimal c =
    let s = c.args.theory.now in
    let n = width_of s in
    let ds = theory_of s in
    let k = c.args.k in
    let had = subst (λ (form : CoverForm). AreCoverDiagnosticsBefore form n ds k (1 + MOST_ATTRIBUTES) c.args.found.now.items) c.in-Minimal.is c.requires.before in
    record {
      before = subst (λ (form : CoverForm). AreCoverDiagnosticsBefore form n ds k (1 + (MOST_ATTRIBUTES + MOST_ATTRIBUTES)) c.args.found.now.items) (sym c.in-Minimal.is)
          (gather_past Minimal n ds k (1 + MOST_ATTRIBUTES) (1 + (MOST_ATTRIBUTES + MOST_ATTRIBUTES)) c.args.found.now.items (omega arith) had
          (no_right_of_minimal n ds k (schema_narrow s) (schema_within s)));
    }
