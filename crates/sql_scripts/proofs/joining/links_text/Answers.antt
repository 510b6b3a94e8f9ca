-- What is left to prove of `links_text`: that a round of its loop keeps the invariant, by `seen_more` and
-- `links_more`.
use Rattle.std.proofs.Common.{◌∙◌}
use Rattle.attr_sets.specs.Sets.{attributes}
use Rattle.sql_scripts.proofs.JoiningLemmas.{seen_more, links_more}
use Rattle.sql_scripts.proofs.joining.links_text.Goals as goal

pub loop-table-preserved : goal.loop-table-preserved
loop-table-preserved c =
    let s = c.args.schema.now in
    let i = c.loop-table.table-index in
    let table = c.table-item.result in
    let before = c.loop-table.invariant in
    record {
      text = links_more s (attributes c.args.scheme) c.args.tables.now i table (attributes c.loop-table.seen) (attributes c.intersection.result)
          c.loop-table.text.items c.add.new.text.items c.deref.result.now
          c.loop-table-test.true c.table-item.is before.seen c.intersection.ensures.members before.text
          (c.deref.ensures.value ∙ c.in_ok-link.ensures.text) c.in_ok-add.ensures.added;
      seen = seen_more (attributes c.args.scheme) c.args.tables.now i table (attributes c.loop-table.seen) (attributes c.union-seen.result)
          c.loop-table-test.true c.table-item.is before.seen c.union-seen.ensures.members;
    }
