-- What is left to prove of `most_columns`: that the invariant of its loop holds at first and stays, by
-- `widest_more` and `widest_passed`.
use Rattle.std.proofs.Common.{sym, ap, ◌∙◌}
use Rattle.attr_sets.specs.Sets.{attributes}
use Rattle.dep_model.proofs.SchemeLemmas.{members_below-none}
use Rattle.design_picture.specs.Places.{name_columns}
use Rattle.design_picture.proofs.PictureLemmas.{widest_more, widest_passed}
use Rattle.design_picture.proofs.sizes.most_columns.Goals as goal
use Rattle.design_picture.proofs.sizes.most_columns.Goals.{then-contains+in_ok-columns, else-contains}

pub loop-attribute-init : goal.loop-attribute-init
loop-attribute-init c = rw (members_below-none (attributes c.args.table.now.scheme))
    (c.in_ok-most.ensures.columns ∙ ap name_columns c.bytes.ensures.value)

pub loop-attribute-preserved : goal.loop-attribute-preserved
loop-attribute-preserved c =
    let s = c.args.schema.now in
    let scheme = attributes c.args.table.now.scheme in
    let n = c.loop-attribute.attribute in
    let first = name_columns c.args.table.now.name in
    elim c.if-contains.branch [
      | then-contains+in_ok-columns w ↦
          rw w.most-is
          (w.max-most.ensures ∙ widest_more s scheme n first c.loop-attribute.most w.in_ok-columns.columns
          (sym w.if-contains.ensures.member) c.loop-attribute.invariant w.in_ok-columns.ensures.columns)
      | else-contains w ↦
          rw w.most-is (widest_passed s scheme n first c.loop-attribute.most (sym w.if-contains.ensures.member) c.loop-attribute.invariant)
    ]
