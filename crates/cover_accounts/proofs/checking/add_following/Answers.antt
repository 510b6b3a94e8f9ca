-- What is left to prove of `add_following`: what is had once it returns.
use Rattle.std.proofs.Common.{◌+◌, List, refl, sym, subst, ◌∙◌}
use Rattle.std.proofs.lemmas.Bool.{false≢true}
use Rattle.attr_sets.specs.declared.set.TheConstants.{MOST_ATTRIBUTES}
use Rattle.dep_model.specs.declared.dep.Dep.{Dep}
use Rattle.dep_model.specs.declared.dep.Dep.TheVariants.{Fd}
use Rattle.dep_model.specs.Theories.{deps_of, width_of, theory_of}
use Rattle.cover_accounts.specs.declared.diagnostic.CoverDiagnostic.{CoverDiagnostic}
use Rattle.cover_accounts.specs.declared.diagnostic.CoverDiagnostic.TheVariants.{Follows}
use Rattle.cover_accounts.specs.CheckGathering.{AreCoverDiagnosticsBefore}
use Rattle.cover_accounts.proofs.GatheringLemmas.{schema_within, schema_narrow, read_at, no_following, gather_push, gather_skip, gather_next}
use Rattle.cover_accounts.proofs.checking.add_following.Goals as goal

abbrev first : Dep
first = Fd (record { 0 = 0 }) (record { 0 = 0 })

pub returns-then-not-branch : goal.returns-then-not-branch
returns-then-not-branch c =
    let s = c.args.theory.now in
    let n = width_of s in
    let ds = theory_of s in
    let k = c.args.k in
    let read = read_at s (deps_of s) k first refl c.requires.position in
    let follows = c.in_ok-is_told_to_follow.ensures.follows _ read in
    record {
      before = gather_next c.args.form n ds k c.args.found.now.items (schema_narrow s) (schema_within s)
          (gather_skip c.args.form n ds k (1 + (MOST_ATTRIBUTES + MOST_ATTRIBUTES)) c.args.found.now.items c.requires.before
          (no_following c.args.form n ds k _ (schema_narrow s) (schema_within s) read
          (λ is. false≢true (sym c.if-not-branch.true ∙ follows.1 is))));
    }

pub returns : goal.returns
returns c =
    let s = c.args.theory.now in
    let n = width_of s in
    let ds = theory_of s in
    let k = c.args.k in
    let read = read_at s (deps_of s) k first refl c.requires.position in
    let told = (c.in_ok-is_told_to_follow.ensures.follows _ read).0 c.if-not-branch.false in
    record {
      before = gather_next c.args.form n ds k c.push.new.self.items (schema_narrow s) (schema_within s)
          (subst (λ (items : List CoverDiagnostic). AreCoverDiagnosticsBefore c.args.form n ds k (2 + (MOST_ATTRIBUTES + MOST_ATTRIBUTES)) items) (sym c.in_ok-push.ensures.items)
          (gather_push c.args.form n ds k (1 + (MOST_ATTRIBUTES + MOST_ATTRIBUTES)) c.args.found.now.items (Follows k) (schema_narrow s) (schema_within s) c.requires.before
          (_, read, told.0, told.1) refl refl));
    }
