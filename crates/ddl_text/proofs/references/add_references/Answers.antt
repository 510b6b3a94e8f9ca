-- What is left to prove of `add_references`: that a round of its loop keeps the invariant, by
-- `references_more` and `references_not_empty`.
use Rattle.ddl_text.proofs.TextLemmas.{references_more, references_not_empty}
use Rattle.ddl_text.proofs.references.add_references.Goals as goal

pub loop-j-preserved : goal.loop-j-preserved
loop-j-preserved c =
    let s = c.args.schema.now in
    let tables = c.args.tables.now in
    let refs = c.args.refs.now in
    let i = c.loop-j.j-index in
    let before = c.loop-j.invariant in
    record {
      added = λ table. references_more s tables table refs i 0 c.index-tables-j.result c.args.any_before c.loop-j.any_before
          c.args.text.now.items c.loop-j.text.items
          c.add_opening.new.text.items c.add_reference.new.text.items c.loop-j-test.true
          (c.requires.refs i 0 c.loop-j-test.true) c.index-tables-j.is
          (before.added table) (before.any_before table) c.in_ok-add_opening.ensures.added c.in_ok-add_reference.ensures.added;
      any_before = λ table. references_not_empty s tables table refs i 0 c.args.any_before c.loop-j-test.true;
    }
