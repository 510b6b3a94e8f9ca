-- What is left to prove of `add_edges_to`: that a round of its loop keeps the invariant, by
-- `edge_more`.
use Rattle.std.proofs.Common.{◌∙◌}
use Rattle.table_drawing.proofs.DrawingLemmas.{edge_more}
use Rattle.table_drawing.proofs.edges.add_edges_to.Goals as goal

pub loop-j-preserved : goal.loop-j-preserved
loop-j-preserved c =
    edge_more c.args.schema.now c.args.tables.now c.args.table.now c.index-tables-j.result c.args.refs.now c.loop-j.j-index 0
    c.args.text.now.items c.loop-j.text.items c.add.new.text.items c.deref.result.now
    c.loop-j-test.true (c.requires.refs c.loop-j.j-index 0 c.loop-j-test.true) c.index-tables-j.is
    c.loop-j.invariant (c.deref.ensures.value ∙ c.in_ok-edge_text.ensures.text) c.in_ok-add.ensures.added
