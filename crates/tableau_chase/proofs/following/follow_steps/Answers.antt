-- What is left to prove of `follow_steps`: what `take_led_steps` requires, and that a round of its loop keeps
-- the invariant, by `EquatingLemmas`.
use Rattle.dep_model.specs.Deps.{dependencies_of}
use Rattle.tableau_chase.proofs.EquatingLemmas.{follows_more}
use Rattle.tableau_chase.proofs.following.follow_steps.Goals as goal

pub take_led_steps-requires-clause-over : goal.take_led_steps-requires-clause-over
take_led_steps-requires-clause-over c = c.loop.invariant.keeps.over c.args.width c.requires.over

pub loop-preserved : goal.loop-preserved
loop-preserved c =
    follows_more (dependencies_of c.args.deps.now) c.args.rows.now c.loop.rows c.take_led_steps.new.rows c.loop.invariant c.in_ok-changed.ensures.follows

pub returns-then-not-changed : goal.returns-then-not-changed
returns-then-not-changed c = record {
  follows = follows_more (dependencies_of c.args.deps.now) c.args.rows.now c.loop.rows c.take_led_steps.new.rows c.loop.invariant c.in_ok-changed.ensures.follows;
}
