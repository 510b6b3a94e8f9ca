-- What is left to prove of `add_same_left`: what is had once it returns.
use Rattle.std.proofs.Common.{ℕ, List, Option, refl, sym, subst}
use Rattle.std.specs.Prelude.{IsNone}
use Rattle.dep_model.specs.Theories.{width_of, theory_of}
use Rattle.cover_accounts.specs.declared.diagnostic.CoverDiagnostic.{CoverDiagnostic}
use Rattle.cover_accounts.specs.declared.diagnostic.CoverDiagnostic.TheVariants.{SameLeft}
use Rattle.cover_accounts.specs.declared.diagnostic.CoverForm.TheVariants.{Canonical}
use Rattle.cover_accounts.specs.CheckGathering.{AreCoverDiagnosticsBefore}
use Rattle.cover_accounts.proofs.GatheringLemmas.{schema_within, schema_narrow, no_same_left, gather_push, gather_skip}
use Rattle.cover_accounts.proofs.sides.add_same_left.Goals as goal

pub returns-in-None : goal.returns-in-None
returns-in-None c =
    let s = c.args.theory.now in
    record {
      before = gather_skip Canonical (width_of s) (theory_of s) c.args.k 0 c.args.found.now.items c.requires.before
          (no_same_left (width_of s) (theory_of s) c.args.k (c.first_with_left.ensures.none (subst (λ (o : Option ℕ). IsNone o) (sym c.in-None.is) refl)));
    }

pub returns-in_ok-push-in-Some : goal.returns-in_ok-push-in-Some
returns-in_ok-push-in-Some c =
    let s = c.args.theory.now in
    let n = width_of s in
    let ds = theory_of s in
    let k = c.args.k in
    record {
      before = subst (λ (items : List CoverDiagnostic). AreCoverDiagnosticsBefore Canonical n ds k 1 items) (sym c.in_ok-push-in-Some.ensures.items)
          (gather_push Canonical n ds k 0 c.args.found.now.items (SameLeft k c.in-Some.first) (schema_narrow s) (schema_within s) c.requires.before
          (refl, c.in-Some.ensures.first) refl refl);
    }
