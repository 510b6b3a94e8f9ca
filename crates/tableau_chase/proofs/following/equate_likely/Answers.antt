-- What is left to prove of `equate_likely`: what `equate_agreeing` requires, and that the invariant of its loop stays,
-- by `EquatingLemmas`.
use Rattle.attr_sets.specs.Sets.{attributes}
use Rattle.dep_model.specs.Dependencies.{fd}
use Rattle.tableau_chase.proofs.EquatingLemmas.{follows_by_more, follows_by_keeps}
use Rattle.tableau_chase.proofs.following.equate_likely.Goals as goal

pub equate_agreeing-requires-clause-over : goal.equate_agreeing-requires-clause-over
equate_agreeing-requires-clause-over c =
    (follows_by_keeps (fd (attributes c.args.lhs) (attributes c.args.rhs)) c.args.rows.now c.loop-i.rows c.loop-i.invariant).over c.args.width c.requires.over

pub loop-i-preserved : goal.loop-i-preserved
loop-i-preserved c =
    follows_by_more (fd (attributes c.args.lhs) (attributes c.args.rhs)) c.args.rows.now c.loop-i.rows c.equate_agreeing.new.rows c.loop-i.invariant c.equate_agreeing.ensures.follows
