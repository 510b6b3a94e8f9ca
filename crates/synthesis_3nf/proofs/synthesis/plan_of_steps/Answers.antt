-- What is left to prove of `plan_of_steps`: its clauses and what `new` requires, by `CompleteLemmas` and
-- `MadeLemmas`.
use Rattle.std.proofs.Common.{◌≡◌, true, List, sym, subst, ap, ◌∙◌}
use Rattle.std.specs.Prelude.{All, Contains}
use Rattle.std.specs.List.{list_any}
use Rattle.attr_sets.specs.declared.set.AttrSet.{AttrSet}
use Rattle.attr_sets.specs.Attributes.{Attributes}
use Rattle.dep_model.specs.declared.dep.Dep.{Dep}
use Rattle.dep_model.specs.Theories.{Theory}
use Rattle.dep_model.specs.Deps.{dependencies_of}
use Rattle.dep_model.specs.Plans.{IsPlan, schemes_of}
use Rattle.dep_model.specs.Projections.{IsLossless}
use Rattle.dep_model.specs.Theories.{width_of, theory_of}
use Rattle.plans.specs.Containing.{lies_within, without_contained}
use Rattle.synthesis_3nf.specs.GroupedPlans.{AreSynthesisSteps}
use Rattle.synthesis_3nf.proofs.GroupSchemes.{AreRules}
use Rattle.synthesis_3nf.proofs.CompleteLemmas.{IsSynthesized, are_plan, are_lossless, kept_third, kept_keeps}
use Rattle.synthesis_3nf.proofs.MadeLemmas.{IsCovered, attributes_not_empty, covered_rules, synthesized}
use Rattle.synthesis_3nf.proofs.synthesis.plan_of_steps.Goals as goal

-- what is known of the steps
record AreMade (s : Theory) (cover : List Dep) (all : List AttrSet) : Type 0 where
  covered : IsCovered s cover
  nullable : Attributes
  steps : AreSynthesisSteps (width_of s) (theory_of s) nullable (dependencies_of cover) (schemes_of all)

module _ (s : Theory) (cover : List Dep) (all : List AttrSet) (made : AreMade s cover all) where
  rules : AreRules (width_of s) (theory_of s) (dependencies_of cover)
  rules = covered_rules s cover made.covered

  all_made : IsSynthesized (width_of s) (theory_of s) (dependencies_of cover) (schemes_of all)
  all_made = synthesized s made.nullable cover all made.covered made.steps.completed

pub new-requires : goal.new-requires
new-requires c =
    let s = c.args.theory.now in
    let steps = c.args.steps.now in
    let made : AreMade s steps.cover.items steps.schemes.items =
    record { covered = record { minimal = c.requires.minimal; within = c.requires.within }; nullable = c.requires.steps.0; steps = c.requires.steps.1 } in
    let copied : c.in_ok-schemes.schemes.items ≡ steps.schemes.items = c.in_ok-schemes.ensures.items ∙ c.deref.ensures.value in
    record {
      plan = subst (λ (xs : List AttrSet). IsPlan (width_of s) (schemes_of xs)) (sym copied)
          (are_plan _ _ _ (attributes_not_empty s) (rules _ _ _ made) _ (all_made _ _ _ made));
    }

pub returns-clause-kept : goal.returns-clause-kept
returns-clause-kept c =
    let copied = c.in_ok-schemes.ensures.items ∙ c.deref.ensures.value in
    c.drop_contained.ensures.schemes ∙ ap (λ (xs : List AttrSet). without_contained xs) (c.new.ensures.schemes ∙ copied)

pub returns-clause-grouped : goal.returns-clause-grouped
returns-clause-grouped c nullable are =
    let steps = c.args.steps.now in
    let copied = c.in_ok-schemes.ensures.items ∙ c.deref.ensures.value in
    record {
      cover = dependencies_of steps.cover.items;
      all = steps.schemes.items;
      steps = are;
      kept = c.drop_contained.ensures.schemes ∙ ap (λ (xs : List AttrSet). without_contained xs) (c.new.ensures.schemes ∙ copied);
    }

pub returns-clause-lossless : goal.returns-clause-lossless
returns-clause-lossless c =
    let s = c.args.theory.now in
    let steps = c.args.steps.now in
    let made : AreMade s steps.cover.items steps.schemes.items =
    record { covered = record { minimal = c.requires.minimal; within = c.requires.within }; nullable = c.requires.steps.0; steps = c.requires.steps.1 } in
    let copied = c.in_ok-schemes.ensures.items ∙ c.deref.ensures.value in
    c.drop_contained.ensures.lossless (theory_of s)
    (subst (λ (xs : List AttrSet). IsLossless (width_of s) (theory_of s) (schemes_of xs)) (sym (c.new.ensures.schemes ∙ copied))
    (are_lossless _ _ _ (attributes_not_empty s) (rules _ _ _ made) _ (all_made _ _ _ made)))

pub returns-clause-third : goal.returns-clause-third
returns-clause-third c =
    let s = c.args.theory.now in
    let steps = c.args.steps.now in
    let made : AreMade s steps.cover.items steps.schemes.items =
    record { covered = record { minimal = c.requires.minimal; within = c.requires.within }; nullable = c.requires.steps.0; steps = c.requires.steps.1 } in
    let copied = c.in_ok-schemes.ensures.items ∙ c.deref.ensures.value in
    let kept = c.drop_contained.result.schemes.items in
    kept_third _ _ _ (attributes_not_empty s) (rules _ _ _ made) _ kept (all_made _ _ _ made)
    (subst (λ (xs : List AttrSet). All (λ (k : AttrSet). Contains xs k) kept) (c.new.ensures.schemes ∙ copied) c.drop_contained.ensures.among)

pub returns-clause-keeps : goal.returns-clause-keeps
returns-clause-keeps c =
    let s = c.args.theory.now in
    let steps = c.args.steps.now in
    let made : AreMade s steps.cover.items steps.schemes.items =
    record { covered = record { minimal = c.requires.minimal; within = c.requires.within }; nullable = c.requires.steps.0; steps = c.requires.steps.1 } in
    let copied = c.in_ok-schemes.ensures.items ∙ c.deref.ensures.value in
    let kept = c.drop_contained.result.schemes.items in
    kept_keeps _ _ _ (attributes_not_empty s) (rules _ _ _ made) _ kept (all_made _ _ _ made)
    (subst (λ (xs : List AttrSet). All (λ (old : AttrSet). list_any (lies_within old) kept ≡ true) xs) (c.new.ensures.schemes ∙ copied) c.drop_contained.ensures.held)
