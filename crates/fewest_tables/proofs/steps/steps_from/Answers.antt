-- What is left to prove of `steps_from`: its clauses, and what the calls that it makes require, by `MadeLemmas`.
use Rattle.std.proofs.Common.{◌≡◌, ◌++◌, List, [], map, sym, subst, ap, ◌∙◌}
use Rattle.attr_sets.specs.Attributes.{Attributes, below}
use Rattle.attr_sets.specs.Sets.{attributes}
use Rattle.attr_sets.specs.declared.set.AttrSet.{AttrSet}
use Rattle.dep_model.proofs.DepLemmas.{dependencies_all-from}
use Rattle.dep_model.specs.declared.dep.Dep.{Dep}
use Rattle.dep_model.specs.Dependencies.{IsWithin}
use Rattle.dep_model.specs.Deps.{dependencies_of}
use Rattle.dep_model.specs.Plans.{schemes_of}
use Rattle.dep_model.specs.Theories.{width_of, theory_of}
use Rattle.fd_closure.specs.declared.known.KnownClosure.{KnownClosure}
use Rattle.min_cover.specs.Covers.{IsThinned}
use Rattle.synthesis_3nf.specs.GroupedPlans.{IsWithKey}
use Rattle.synthesis_3nf.specs.Groups.{left_sides_after}
use Rattle.fewest_tables.specs.Alike.{AreGroups, all_exchanges}
use Rattle.fewest_tables.specs.FewestSteps.{group_with, groups_in}
use Rattle.fewest_tables.specs.MergedPlans.{AreMergedSteps, merged_scheme}
use Rattle.fewest_tables.proofs.MadeLemmas.{groups_made_low, lefts_low, merged_low, steps_fewest}
use Rattle.fewest_tables.proofs.steps.steps_from.Goals as goal
use Rattle.fewest_tables.proofs.steps.steps_from.Goals.{In_ok-groups, In_ok-kept, In_ok-merged, In_ok-schemes}

-- the left sides of the cover in groups
grouped : (c : In_ok-groups) → AreGroups (width_of c.args.theory.now) (theory_of c.args.theory.now) (left_sides_after [] (dependencies_of c.args.plain.cover.items)) (groups_in c.in_ok-groups.groups)
grouped c =
    subst (λ (xs : List Attributes). AreGroups (width_of c.args.theory.now) (theory_of c.args.theory.now) xs (groups_in c.in_ok-groups.groups))
    (ap (λ (l : List AttrSet). schemes_of l) c.deref.ensures.value ∙ c.requires.lefts) c.in_ok-groups.ensures.grouped

-- the members that are kept
thinned : (c : In_ok-kept) → IsThinned (width_of c.args.theory.now) (all_exchanges (groups_in c.in_ok-groups.groups)) (dependencies_of c.args.plain.cover.items)
    (all_exchanges (groups_in c.in_ok-groups.groups) ++ dependencies_of c.in_ok-kept.kept.items)
thinned c = rw (sym c.deref-2.ensures.value) c.in_ok-kept.ensures.thinned

-- the schemes of the groups
merged_are : (c : In_ok-merged) → schemes_of c.in_ok-merged.merged.items ≡ map (merged_scheme (dependencies_of c.in_ok-kept.kept.items)) (groups_in c.in_ok-groups.groups)
merged_are c =
    c.in_ok-merged.ensures.schemes
    ∙ ap (λ (l : List Dep). map (merged_scheme (dependencies_of l)) (map (group_with c.deref-4.result.now) c.deref-5.result.now)) c.deref-3.ensures.value
    ∙ ap (λ (l : List KnownClosure). map (merged_scheme (dependencies_of c.in_ok-kept.kept.items)) (map (group_with l) c.deref-5.result.now)) c.deref-4.ensures.value
    ∙ ap (λ (l : List KnownClosure). map (merged_scheme (dependencies_of c.in_ok-kept.kept.items)) (map (group_with c.in_ok-groups.groups.lefts.items) l)) c.deref-5.ensures.value

merged_steps : (c : In_ok-schemes) → AreGroups (width_of c.args.theory.now) (theory_of c.args.theory.now) (left_sides_after [] (dependencies_of c.args.plain.cover.items)) (groups_in c.in_ok-groups.groups)
    → IsThinned (width_of c.args.theory.now) (all_exchanges (groups_in c.in_ok-groups.groups)) (dependencies_of c.args.plain.cover.items) (all_exchanges (groups_in c.in_ok-groups.groups) ++ dependencies_of c.in_ok-kept.kept.items)
    → schemes_of c.in_ok-merged.merged.items ≡ map (merged_scheme (dependencies_of c.in_ok-kept.kept.items)) (groups_in c.in_ok-groups.groups)
    → AreMergedSteps (width_of c.args.theory.now) (theory_of c.args.theory.now) (attributes c.args.nullable) (dependencies_of c.args.plain.cover.items)
    (groups_in c.in_ok-groups.groups) (dependencies_of c.in_ok-kept.kept.items) (schemes_of c.in_ok-schemes.schemes.items)
merged_steps c are_grouped are_thinned are_merged = record {
  fixed = c.requires.plain.fixed;
  grouped = are_grouped;
  thinned = are_thinned;
  completed = subst (λ (xs : List Attributes). IsWithKey (width_of c.args.theory.now) (theory_of c.args.theory.now) (attributes c.args.nullable) xs (schemes_of c.in_ok-schemes.schemes.items))
      are_merged c.in_ok-schemes.ensures.completed;
}

pub group_left_sides-requires : goal.group_left_sides-requires
group_left_sides-requires c =
    let s = c.args.theory.now in
    let cover = dependencies_of c.args.plain.cover.items in
    let within = dependencies_all-from (IsWithin (below (width_of s))) c.args.plain.cover.items c.requires.within in
    record { within = rw c.deref.ensures.value (lefts_low s cover c.args.plain.lefts.items within c.requires.lefts) }

pub kept_members-requires : goal.kept_members-requires
kept_members-requires c =
    let s = c.args.theory.now in
    let cover = dependencies_of c.args.plain.cover.items in
    let within = dependencies_all-from (IsWithin (below (width_of s))) c.args.plain.cover.items c.requires.within in
    record {
      groups = groups_made_low s cover (groups_in c.in_ok-groups.groups) within (grouped (goal.at.kept_members-requires c).In_ok-groups);
      cover = rw c.deref-2.ensures.value c.requires.within;
    }

pub with_key-requires : goal.with_key-requires
with_key-requires c =
    let s = c.args.theory.now in
    let cover = dependencies_of c.args.plain.cover.items in
    let within = dependencies_all-from (IsWithin (below (width_of s))) c.args.plain.cover.items c.requires.within in
    let at = goal.at.with_key-requires c in
    record {
      within = merged_low s cover (groups_in c.in_ok-groups.groups) (dependencies_of c.in_ok-kept.kept.items) c.in_ok-merged.merged.items c.requires.minimal within
          (grouped at.In_ok-groups) (thinned at.In_ok-kept) (merged_are at.In_ok-merged);
    }

pub returns-clause-steps : goal.returns-clause-steps
returns-clause-steps c = record {
  plain = c.requires.plain;
  lefts = c.requires.lefts;
  minimal = c.requires.minimal;
  within = c.requires.within;
  merged =
      let at = goal.at.returns-clause-steps c in
      merged_steps at.In_ok-schemes (grouped at.In_ok-groups) (thinned at.In_ok-kept) (merged_are at.In_ok-merged);
}

pub returns-clause-fewest : goal.returns-clause-fewest
returns-clause-fewest c =
    let at = goal.at.returns-clause-fewest c in
    steps_fewest c.args.theory.now (attributes c.args.nullable) (dependencies_of c.args.plain.cover.items) (groups_in c.in_ok-groups.groups) (dependencies_of c.in_ok-kept.kept.items)
    (schemes_of c.in_ok-schemes.schemes.items) (merged_steps at.In_ok-schemes (grouped at.In_ok-groups) (thinned at.In_ok-kept) (merged_are at.In_ok-merged))
