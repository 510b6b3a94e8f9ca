-- What is left to prove of `add_spare_rights`: that a round of its loop keeps the invariant.
use Rattle.std.proofs.Common.{◌≡◌, ℕ, ◌+◌, List, refl, sym, ap, subst, ◌∙◌, arith}
use Rattle.std.proofs.lemmas.Bool.{false≢true}
use Rattle.attr_sets.specs.declared.set.TheConstants.{MOST_ATTRIBUTES}
use Rattle.dep_model.specs.declared.dep.Dep.{Dep}
use Rattle.dep_model.specs.declared.dep.Dep.TheVariants.{Fd}
use Rattle.dep_model.specs.Theories.{deps_of, width_of, theory_of}
use Rattle.cover_accounts.specs.declared.diagnostic.CoverDiagnostic.{CoverDiagnostic}
use Rattle.cover_accounts.specs.declared.diagnostic.CoverDiagnostic.TheVariants.{NotNeededOnRight}
use Rattle.cover_accounts.specs.declared.diagnostic.CoverForm.TheVariants.{Canonical}
use Rattle.cover_accounts.specs.CheckGathering.{AreCoverDiagnosticsBefore}
use Rattle.cover_accounts.proofs.GatheringLemmas.{schema_within, schema_narrow, read_at, no_such_right, gather_push, gather_skip}
use Rattle.cover_accounts.proofs.needless.add_spare_rights.Goals.{then-branch+in_ok-push, else-branch}
use Rattle.cover_accounts.proofs.needless.add_spare_rights.Goals as goal

abbrev first : Dep
first = Fd (record { 0 = 0 }) (record { 0 = 0 })

pub loop-attribute-preserved : goal.loop-attribute-preserved
loop-attribute-preserved c =
    let s = c.args.theory.now in
    let n = width_of s in
    let ds = theory_of s in
    let k = c.args.k in
    let a = c.loop-attribute.attribute in
    let rank = 1 + (MOST_ATTRIBUTES + a) in
    let read = read_at s (deps_of s) k first refl c.requires.position in
    let told = c.in_ok-is_not_needed_on_right.ensures.not_needed _ read in
    let later : rank + 1 ≡ 1 + (MOST_ATTRIBUTES + (a + 1)) = omega arith in
    elim c.if-branch.branch [
      | then-branch+in_ok-push w ↦
          let pushed = ap (λ v. v.items) w.found-is ∙ w.in_ok-push.ensures.items in
          subst (λ (r : ℕ). AreCoverDiagnosticsBefore Canonical n ds k r c.if-branch.found.items) later
          (subst (λ (items : List CoverDiagnostic). AreCoverDiagnosticsBefore Canonical n ds k (rank + 1) items) (sym pushed)
          (gather_push Canonical n ds k rank c.loop-attribute.found.items (NotNeededOnRight k a) (schema_narrow s) (schema_within s) c.loop-attribute.invariant
          (refl, (_, read, told.0 w.if-branch.true)) refl refl))
      | else-branch w ↦
          subst (λ (r : ℕ). AreCoverDiagnosticsBefore Canonical n ds k r c.if-branch.found.items) later
          (subst (λ (items : List CoverDiagnostic). AreCoverDiagnosticsBefore Canonical n ds k (rank + 1) items) (sym (ap (λ v. v.items) w.found-is))
          (gather_skip Canonical n ds k rank c.loop-attribute.found.items c.loop-attribute.invariant
          (no_such_right Canonical n ds k a _ (schema_narrow s) (schema_within s) c.loop-attribute-test.true read
          (λ is. false≢true (sym w.if-branch.false ∙ told.1 is)))))
    ]
