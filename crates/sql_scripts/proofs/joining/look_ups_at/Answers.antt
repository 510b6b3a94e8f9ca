-- What is left to prove of `look_ups_at`: that a round of its loop keeps the invariant, by `look_ups_more`.
use Rattle.std.proofs.Common.{◌∙◌}
use Rattle.sql_scripts.proofs.JoiningLemmas.{look_ups_more}
use Rattle.sql_scripts.proofs.joining.look_ups_at.Goals as goal

pub loop-k-preserved : goal.loop-k-preserved
loop-k-preserved c =
    let i = c.loop-k.k-index in
    look_ups_more c.args.schema.now c.args.designs.now c.args.positions.now i 0 c.index-designs-k.result
    c.loop-k.text.items c.add.new.text.items c.deref.result.now c.loop-k-test.true
    (c.requires.within i 0 c.loop-k-test.true) c.index-designs-k.is c.loop-k.invariant
    (c.deref.ensures.value ∙ c.in_ok-link.ensures.text) c.in_ok-add.ensures.added
