-- What is left to prove of `merged_plan`: its clauses and what `new` requires, by `MadeLemmas`.
use Rattle.std.proofs.Common.{◌≡◌, true, List, sym, subst, ap, ◌∙◌}
use Rattle.std.specs.Prelude.{All, Contains}
use Rattle.std.specs.List.{list_any}
use Rattle.attr_sets.specs.declared.set.AttrSet.{AttrSet}
use Rattle.dep_model.specs.Deps.{dependencies_of}
use Rattle.dep_model.specs.Plans.{IsPlan, schemes_of}
use Rattle.dep_model.specs.Projections.{IsLossless}
use Rattle.dep_model.specs.Theories.{width_of, theory_of}
use Rattle.plans.specs.Containing.{lies_within, without_contained}
use Rattle.fewest_tables.specs.FewestSteps.{groups_in}
use Rattle.fewest_tables.proofs.MadeLemmas.{steps_keep, steps_lossless, steps_plan, steps_third}
use Rattle.fewest_tables.proofs.fewest.merged_plan.Goals as goal

pub new-requires : goal.new-requires
new-requires c =
    let s = c.args.theory.now in
    let steps = c.args.steps.now in
    let copied : c.in_ok-schemes.schemes.items ≡ steps.schemes.items = c.in_ok-schemes.ensures.items ∙ c.deref.ensures.value in
    record {
      plan = subst (λ (xs : List AttrSet). IsPlan (width_of s) (schemes_of xs)) (sym copied)
          (steps_plan s c.requires.steps.0 (dependencies_of steps.plain.cover.items) (groups_in steps.groups) (dependencies_of steps.kept.items) (schemes_of steps.schemes.items) c.requires.steps.1.merged);
    }

pub returns-clause-left : goal.returns-clause-left
returns-clause-left c =
    let copied = c.in_ok-schemes.ensures.items ∙ c.deref.ensures.value in
    c.drop_contained.ensures.schemes ∙ ap (λ (xs : List AttrSet). without_contained xs) (c.new.ensures.schemes ∙ copied)

pub returns-clause-lossless : goal.returns-clause-lossless
returns-clause-lossless c =
    let s = c.args.theory.now in
    let steps = c.args.steps.now in
    let copied = c.in_ok-schemes.ensures.items ∙ c.deref.ensures.value in
    c.drop_contained.ensures.lossless (theory_of s)
    (subst (λ (xs : List AttrSet). IsLossless (width_of s) (theory_of s) (schemes_of xs)) (sym (c.new.ensures.schemes ∙ copied))
    (steps_lossless s c.requires.steps.0 (dependencies_of steps.plain.cover.items) (groups_in steps.groups) (dependencies_of steps.kept.items) (schemes_of steps.schemes.items) c.requires.steps.1.merged))

pub returns-clause-third : goal.returns-clause-third
returns-clause-third c =
    let s = c.args.theory.now in
    let steps = c.args.steps.now in
    let copied = c.in_ok-schemes.ensures.items ∙ c.deref.ensures.value in
    let left = c.drop_contained.result.schemes.items in
    steps_third s c.requires.steps.0 (dependencies_of steps.plain.cover.items) (groups_in steps.groups) (dependencies_of steps.kept.items) steps.schemes.items left c.requires.steps.1.merged
    (subst (λ (xs : List AttrSet). All (λ (k : AttrSet). Contains xs k) left) (c.new.ensures.schemes ∙ copied) c.drop_contained.ensures.among)

pub returns-clause-keeps : goal.returns-clause-keeps
returns-clause-keeps c =
    let s = c.args.theory.now in
    let steps = c.args.steps.now in
    let copied = c.in_ok-schemes.ensures.items ∙ c.deref.ensures.value in
    let left = c.drop_contained.result.schemes.items in
    steps_keep s c.requires.steps.0 (dependencies_of steps.plain.cover.items) (groups_in steps.groups) (dependencies_of steps.kept.items) steps.schemes.items left c.requires.steps.1.merged
    (subst (λ (xs : List AttrSet). All (λ (old : AttrSet). list_any (lies_within old) left ≡ true) xs) (c.new.ensures.schemes ∙ copied) c.drop_contained.ensures.held)
