-- What is left to prove of `add_integers`: that a round of its loop keeps the invariant, by
-- `range_more`.
use Rattle.std.proofs.Common.{◌∙◌, ◌+◌}
use Rattle.std.specs.List.{range_with_len}
use Rattle.ddl_text.proofs.TextLemmas.{item_more}
use Rattle.sql_scripts.specs.Checking.{value_text}
use Rattle.dep_model.proofs.ListLemmas.{range_more}
use Rattle.sql_scripts.proofs.integers.add_integers.Goals as goal

pub loop-attribute-preserved : goal.loop-attribute-preserved
loop-attribute-preserved c =
    let s = c.args.schema.now in
    let n = c.loop-attribute.attribute in
    item_more (value_text s c.args.table.now) c.args.text.now.items c.loop-attribute.text.items c.add.new.text.items c.deref.result.now
    (range_with_len 0 n) (range_with_len 0 (n + 1)) n c.loop-attribute.invariant
    (c.deref.ensures.value ∙ c.in_ok-query.ensures.text) c.in_ok-add.ensures.added (range_more n)
