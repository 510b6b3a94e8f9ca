-- What is left to prove of `is_held`: where it says yes, the set at which it ends holds the set.
use Rattle.std.proofs.Common.{get_or}
use Rattle.std.proofs.lemmas.List.Elements.{Contains-get_or}
use Rattle.attr_sets.specs.Sets.{attributes}
use Rattle.attr_sets.specs.declared.set.AttrSet.{AttrSet}
use Rattle.dep_model.proofs.ListLemmas.{Contains-map}
use Rattle.candidate_branches.proofs.evidence.is_held.Goals as goal

pub returns-then-is_subset : goal.returns-then-is_subset
returns-then-is_subset c =
    let none : AttrSet = record { 0 = 0 } in
    let one : AttrSet = get_or c.args.sets.now c.loop-one.one-index none in
    record {
      held = λ _. (
        attributes one,
        Contains-map attributes c.args.sets.now one (Contains-get_or c.args.sets.now c.loop-one.one-index none c.loop-one-test.true),
        c.is_subset.ensures.subset.0 c.if-is_subset.true,
      );
    }
