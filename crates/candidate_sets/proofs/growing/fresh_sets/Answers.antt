-- What is left to prove of `fresh_sets`: that the invariant of its loop stays, and why it refuses, by
-- `GrowLemmas`.
use Rattle.std.proofs.Common.{◌+◌, take, arith}
use Rattle.attr_sets.specs.Sets.{attributes}
use Rattle.candidate_sets.specs.Growing.{AreFresh}
use Rattle.candidate_sets.proofs.GrowLemmas.{many_fresh, next_fresh}
use Rattle.candidate_sets.proofs.growing.fresh_sets.Goals as goal
use Rattle.candidate_sets.proofs.growing.fresh_sets.Goals.{After-len}

grown : (c : After-len) → AreFresh c.args.kept.now (attributes c.args.columns)
    (take (c.loop-hit.hit-index + 1) c.args.hits.now) c.args.width c.add_grown.new.new.items
grown c =
    next_fresh c.args.kept.now (attributes c.args.columns) c.args.width c.args.hits.now c.loop-hit.hit-index _
    c.loop-hit.new.items c.add_grown.new.new.items c.loop-hit-test.true c.requires.differ c.requires.apart
    c.loop-hit.invariant.fresh c.in_ok-add_grown.ensures.added

pub returns-then-len-kept-clause-refusal : goal.returns-then-len-kept-clause-refusal
returns-then-len-kept-clause-refusal c =
    many_fresh c.args.kept.now (attributes c.args.columns) c.args.width c.args.hits.now (c.loop-hit.hit-index + 1)
    c.add_grown.new.new.items (grown (goal.at.returns-then-len-kept-clause-refusal c).After-len)
    (omega (arith, c.if-len-kept.true, c.len.ensures, c.requires.within_limit, c.add_grown.new.new.ok.0))

pub loop-hit-preserved : goal.loop-hit-preserved
loop-hit-preserved c = record {
  fresh = grown (goal.at.loop-hit-preserved c).After-len;
  within_limit = omega (arith, c.if-len-kept.false, c.len.ensures, c.requires.within_limit, c.add_grown.new.new.ok.0);
}
