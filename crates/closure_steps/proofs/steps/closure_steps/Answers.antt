-- What is left to prove of `closure_steps`: that a round of its loop keeps the invariant, and that the
-- loop ends, since each step adds an attribute.
use Rattle.std.proofs.Common.{◌≡◌, ◌++◌, List, [], ◌∷◌, sym, ap, subst, ◌∙◌, ⊎_elim, arith}
use Rattle.std.proofs.lemmas.List.{map-append}
use Rattle.std.proofs.lemmas.List.Elements.{All-push}
use Rattle.std.specs.Prelude.{All}
use Rattle.attr_sets.specs.Attributes.{Attributes, IsSubset, union}
use Rattle.attr_sets.specs.Sets.{attributes}
use Rattle.attr_sets.specs.declared.set.TheConstants.{MOST_ATTRIBUTES}
use Rattle.attr_sets.proofs.AttributesLemmas.{attributes_below, tell_subset, count_below-lt, count_below-le}
use Rattle.dep_model.specs.Theories.{theory_of, universe_of}
use Rattle.closure_steps.specs.declared.steps.ClosureStep.{ClosureStep}
use Rattle.closure_steps.specs.Steps.{ClosureStepValue, IsClosureStep, AreSteps, reached, closure_step_value, closure_step_values}
use Rattle.closure_steps.proofs.StepLemmas.{AreSteps-push, reached-push, adds_beyond}
use Rattle.closure_steps.proofs.steps.closure_steps.Goals as goal

pub loop-step-smaller : goal.loop-step-smaller
loop-step-smaller c =
    let now = attributes c.loop-step.reached in
    let more = c.union-reached in
    ⊎_elim
    (λ new. omega (arith, count_below-lt MOST_ATTRIBUTES now (attributes more.result) new.0 (λ k m. grind (arith, ap (λ (x : Attributes). x k) more.ensures.members, m)) new.1 new.3 new.2, count_below-le MOST_ATTRIBUTES (attributes more.result)))
    (λ back. absurd (adds_beyond (theory_of c.args.theory.now) now (closure_step_value c.in-Some.step) c.in-Some.ensures.step
    (λ k m. back k (grind (arith, ap (λ (x : Attributes). x k) more.ensures.members, m)))))
    (tell_subset MOST_ATTRIBUTES (attributes more.result) now (attributes_below more.result))

pub loop-step-preserved : goal.loop-step-preserved
loop-step-preserved c =
    let ds = theory_of c.args.theory.now in
    let x = attributes c.args.set in
    let before = c.loop-step.invariant in
    let steps = closure_step_values c.loop-step.steps.items in
    let step = closure_step_value c.in-Some.step in
    let pushed : closure_step_values c.push.new.self.items ≡ steps ++ step ∷ [] =
    ap (λ (items : List ClosureStep). closure_step_values items) c.in_ok-push.ensures.items ∙ map-append closure_step_value c.loop-step.steps.items (c.in-Some.step ∷ []) in
    let is : IsClosureStep ds (reached x steps) step = subst (λ (y : Attributes). IsClosureStep ds y step) before.there c.in-Some.ensures.step in
    record {
      each = subst (λ (more : List ClosureStepValue). AreSteps ds x more) (sym pushed) (AreSteps-push ds x steps step before.each is);
      there = c.union-reached.ensures.members
          ∙ ap (λ (y : Attributes). union y (attributes c.in-Some.step.added)) before.there
          ∙ sym (reached-push x steps step)
          ∙ ap (λ (more : List ClosureStepValue). reached x more) (sym pushed);
      within = subst (λ (items : List ClosureStep). All (λ one. IsSubset (attributes one.added) (universe_of c.args.theory.now)) items)
          (sym c.in_ok-push.ensures.items)
          (All-push (λ (one : ClosureStep). IsSubset (attributes one.added) (universe_of c.args.theory.now)) c.loop-step.steps.items c.in-Some.step before.within c.in-Some.ensures.within);
    }
