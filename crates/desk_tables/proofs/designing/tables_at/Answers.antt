-- What is left to prove of `tables_at`: that a round of its loop keeps the invariant.
use Rattle.std.proofs.Common.{sym}
use Rattle.desk_tables.proofs.DesigningLemmas.{members_more}
use Rattle.desk_tables.proofs.designing.tables_at.Goals as goal

pub loop-position-preserved : goal.loop-position-preserved
loop-position-preserved c =
    let positions = c.args.positions.now in
    let i = c.loop-position.position-index in
    let low = c.loop-position-test.true in
    record {
      members = rw (c.in_ok-push.ensures.items, c.loop-position.invariant.members)
          (sym (members_more c.args.tables.now positions i 0 _ low (c.requires.within i 0 low)));
    }
