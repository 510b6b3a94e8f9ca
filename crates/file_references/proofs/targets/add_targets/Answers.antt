-- What is left to prove of `add_targets`: that a round of its loop keeps the invariant, and what it answers, by
-- `KnowsLemmas`.
use Rattle.std.proofs.Common.{List, map, take, subst}
use Rattle.std.proofs.lemmas.List.{take_all}
use Rattle.attr_sets.specs.declared.set.AttrSet.{AttrSet}
use Rattle.file_references.specs.Finds.{KnowsTargets, reference_of}
use Rattle.file_references.proofs.KnowsLemmas.{knows_more, knows_next}
use Rattle.headed_rows.specs.Headings.{headed_of}
use Rattle.file_references.proofs.targets.add_targets.Goals as goal

pub loop-set-preserved : goal.loop-set-preserved
loop-set-preserved c =
    let files = map headed_of c.args.files.now in
    let sets = c.args.sets.now in
    let i = c.loop-set.set-index in
    record {
      knows = λ shared size first few all are start.
          knows_more files c.args.target shared size sets first c.add_target.new.keys.items (map reference_of c.add_target.new.found.items) i _ c.loop-set-test.true
          (c.in_ok-add_target.ensures.knows shared size (take i sets) first few (all.each i _ c.loop-set-test.true) are
          (c.loop-set.invariant.knows shared size first few all are start));
    }

pub returns : goal.returns
returns c =
    let files = map headed_of c.args.files.now in
    let sets = c.args.sets.now in
    record {
      knows = λ shared size first few all are start.
          knows_next files c.args.target shared size sets first c.loop-set.keys.items (map reference_of c.loop-set.found.items) all
          (subst (λ (ss : List AttrSet). KnowsTargets files c.args.target shared size ss first c.loop-set.keys.items (map reference_of c.loop-set.found.items))
          (take_all c.loop-set.set-index sets c.loop-set-test.false) (c.loop-set.invariant.knows shared size first few all are start));
    }
