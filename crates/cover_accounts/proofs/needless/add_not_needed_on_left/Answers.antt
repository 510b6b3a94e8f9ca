-- What is left to prove of `add_not_needed_on_left`: what `is_not_needed_on_left` requires, and that a round of its loop
-- keeps the invariant, which is in the end what it ensures.
use Rattle.std.proofs.Common.{◌≡◌, ℕ, ◌+◌, List, refl, sym, ap, subst, ◌∙◌, arith}
use Rattle.std.proofs.lemmas.Bool.{false≢true}
use Rattle.attr_sets.specs.declared.set.TheConstants.{MOST_ATTRIBUTES}
use Rattle.dep_model.specs.declared.dep.Dep.{Dep}
use Rattle.dep_model.specs.declared.dep.Dep.TheVariants.{Fd}
use Rattle.dep_model.specs.Theories.{width_of, theory_of}
use Rattle.cover_accounts.specs.declared.diagnostic.CoverDiagnostic.{CoverDiagnostic}
use Rattle.cover_accounts.specs.declared.diagnostic.CoverDiagnostic.TheVariants.{NotNeededOnLeft}
use Rattle.cover_accounts.specs.CheckGathering.{AreCoverDiagnosticsBefore}
use Rattle.cover_accounts.proofs.GatheringLemmas.{schema_within, schema_narrow, read_at, within_at, no_such_left, gather_push, gather_skip}
use Rattle.cover_accounts.proofs.needless.add_not_needed_on_left.Goals.{then-is_not_needed_on_left+in_ok-push, else-is_not_needed_on_left}
use Rattle.cover_accounts.proofs.needless.add_not_needed_on_left.Goals as goal

abbrev first : Dep
first = Fd (record { 0 = 0 }) (record { 0 = 0 })

pub is_not_needed_on_left-requires-clause-within : goal.is_not_needed_on_left-requires-clause-within
is_not_needed_on_left-requires-clause-within c =
    within_at c.args.theory.now c.deps.result.now c.args.k first c.deps.ensures.deps c.requires.position

pub loop-attribute-preserved : goal.loop-attribute-preserved
loop-attribute-preserved c = λ form before.
    let s = c.args.theory.now in
    let n = width_of s in
    let ds = theory_of s in
    let k = c.args.k in
    let a = c.loop-attribute.attribute in
    let read = read_at s c.deps.result.now k first c.deps.ensures.deps c.requires.position in
    let later : (1 + a) + 1 ≡ 1 + (a + 1) = omega arith in
    elim c.if-is_not_needed_on_left.branch [
      | then-is_not_needed_on_left+in_ok-push w ↦
          let pushed = ap (λ v. v.items) w.found-is ∙ w.in_ok-push.ensures.items in
          subst (λ (r : ℕ). AreCoverDiagnosticsBefore form n ds k r c.if-is_not_needed_on_left.found.items) later
          (subst (λ (items : List CoverDiagnostic). AreCoverDiagnosticsBefore form n ds k ((1 + a) + 1) items) (sym pushed)
          (gather_push form n ds k (1 + a) c.loop-attribute.found.items (NotNeededOnLeft k a) (schema_narrow s) (schema_within s) (c.loop-attribute.invariant form before)
          (_, read, c.is_not_needed_on_left.ensures.not_needed.0 w.if-is_not_needed_on_left.true) refl refl))
      | else-is_not_needed_on_left w ↦
          subst (λ (r : ℕ). AreCoverDiagnosticsBefore form n ds k r c.if-is_not_needed_on_left.found.items) later
          (subst (λ (items : List CoverDiagnostic). AreCoverDiagnosticsBefore form n ds k ((1 + a) + 1) items) (sym (ap (λ v. v.items) w.found-is))
          (gather_skip form n ds k (1 + a) c.loop-attribute.found.items (c.loop-attribute.invariant form before)
          (no_such_left form n ds k a _ c.loop-attribute-test.true read
          (λ is. false≢true (sym w.if-is_not_needed_on_left.false ∙ c.is_not_needed_on_left.ensures.not_needed.1 is)))))
    ]

pub returns : goal.returns
returns c = record {
  before = λ form before.
      let s = c.args.theory.now in
      let end : 1 + c.loop-attribute.attribute ≡ 1 + MOST_ATTRIBUTES = omega (arith, c.loop-attribute-test.false, c.loop-attribute.auto.attribute-end) in
      subst (λ (r : ℕ). AreCoverDiagnosticsBefore form (width_of s) (theory_of s) c.args.k r c.loop-attribute.found.items) end
      (c.loop-attribute.invariant form before);
}
