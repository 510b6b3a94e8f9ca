-- What is left to prove of `add_several_on_right`: what is had once it returns.
use Rattle.std.proofs.Common.{List, refl, sym, subst, ◌∙◌}
use Rattle.std.proofs.lemmas.Bool.{false≢true}
use Rattle.dep_model.specs.declared.dep.Dep.{Dep}
use Rattle.dep_model.specs.declared.dep.Dep.TheVariants.{Fd}
use Rattle.dep_model.specs.Theories.{width_of, theory_of}
use Rattle.cover_accounts.specs.declared.diagnostic.CoverDiagnostic.{CoverDiagnostic}
use Rattle.cover_accounts.specs.declared.diagnostic.CoverDiagnostic.TheVariants.{SeveralOnRight}
use Rattle.cover_accounts.specs.declared.diagnostic.CoverForm.TheVariants.{Minimal}
use Rattle.cover_accounts.specs.CheckGathering.{AreCoverDiagnosticsBefore}
use Rattle.cover_accounts.proofs.GatheringLemmas.{schema_within, schema_narrow, read_at, no_several_on_right, gather_push, gather_skip}
use Rattle.cover_accounts.proofs.sides.add_several_on_right.Goals as goal

abbrev first : Dep
first = Fd (record { 0 = 0 }) (record { 0 = 0 })

pub returns-then-not-has_several_on_right : goal.returns-then-not-has_several_on_right
returns-then-not-has_several_on_right c =
    let s = c.args.theory.now in
    let k = c.args.k in
    let read = read_at s c.deps.result.now k first c.deps.ensures.deps c.requires.position in
    record {
      before = gather_skip Minimal (width_of s) (theory_of s) k 0 c.args.found.now.items c.requires.before
          (no_several_on_right (width_of s) (theory_of s) k _ read
          (λ wide. false≢true (sym c.if-not-has_several_on_right.true ∙ c.has_several_on_right.ensures.wide.1 wide)));
    }

pub returns : goal.returns
returns c =
    let s = c.args.theory.now in
    let n = width_of s in
    let ds = theory_of s in
    let k = c.args.k in
    let read = read_at s c.deps.result.now k first c.deps.ensures.deps c.requires.position in
    record {
      before = subst (λ (items : List CoverDiagnostic). AreCoverDiagnosticsBefore Minimal n ds k 1 items) (sym c.in_ok-push.ensures.items)
          (gather_push Minimal n ds k 0 c.args.found.now.items (SeveralOnRight k) (schema_narrow s) (schema_within s) c.requires.before
          (refl, (_, read, c.has_several_on_right.ensures.wide.0 c.if-not-has_several_on_right.false)) refl refl);
    }
