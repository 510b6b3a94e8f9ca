-- What is left to prove of `steps_of_cover`: its clauses `steps` and `lefts` and what `with_key` requires,
-- by `MadeLemmas`.
use Rattle.std.proofs.Common.{◌≡◌, List, [], map, ap, subst, ◌∙◌}
use Rattle.attr_sets.specs.declared.set.AttrSet.{AttrSet}
use Rattle.attr_sets.specs.Attributes.{Attributes}
use Rattle.attr_sets.specs.Sets.{attributes}
use Rattle.dep_model.specs.declared.dep.Dep.{Dep}
use Rattle.dep_model.specs.Deps.{dependencies_of}
use Rattle.dep_model.specs.Plans.{schemes_of}
use Rattle.dep_model.specs.Theories.{width_of, theory_of}
use Rattle.synthesis_3nf.specs.Groups.{group_scheme, left_sides_after, schemes_of_groups}
use Rattle.synthesis_3nf.specs.GroupedPlans.{IsWithKey}
use Rattle.synthesis_3nf.proofs.MadeLemmas.{groups_within}
use Rattle.synthesis_3nf.proofs.steps.steps_of_cover.Goals as goal
use Rattle.synthesis_3nf.proofs.steps.steps_of_cover.Goals.{In_ok-groups}

lefts_are : (c : In_ok-groups) → schemes_of c.in_ok-lefts.lefts.items ≡ left_sides_after [] (dependencies_of c.args.cover.items)
lefts_are c = c.in_ok-lefts.ensures.lefts ∙ ap (λ (ds : List Dep). left_sides_after [] (dependencies_of ds)) c.deref.ensures.value

grouped : (c : In_ok-groups) → schemes_of c.in_ok-groups.groups.items ≡ schemes_of_groups (dependencies_of c.args.cover.items)
grouped c =
    let cover = dependencies_of c.args.cover.items in
    c.in_ok-groups.ensures.schemes
    ∙ ap (λ (ds : List Dep). map (group_scheme (dependencies_of ds)) (schemes_of c.deref-3.result.now)) c.deref-2.ensures.value
    ∙ ap (λ (xs : List AttrSet). map (group_scheme cover) (schemes_of xs)) c.deref-3.ensures.value
    ∙ ap (λ (xs : List Attributes). map (group_scheme cover) xs) (lefts_are c)

pub with_key-requires : goal.with_key-requires
with_key-requires c = record {
  within = groups_within c.args.theory.now c.args.cover.items c.in_ok-groups.groups.items
      (record { minimal = c.requires.minimal; within = c.requires.within })
      (grouped (goal.at.with_key-requires c).In_ok-groups);
}

pub returns-clause-steps : goal.returns-clause-steps
returns-clause-steps c =
    let s = c.args.theory.now in
    record {
      fixed = c.requires.fixed;
      completed = subst (λ (xs : List Attributes). IsWithKey (width_of s) (theory_of s) (attributes c.args.nullable) xs (schemes_of c.in_ok-schemes.schemes.items))
          (grouped (goal.at.returns-clause-steps c).In_ok-groups) c.in_ok-schemes.ensures.completed;
    }

pub returns-clause-lefts : goal.returns-clause-lefts
returns-clause-lefts c = lefts_are (goal.at.returns-clause-lefts c).In_ok-groups
