-- What is left to prove of `add_rows`: that the invariant of its loop holds at first and stays, by
-- `row_more` and `row_passed`.
use Rattle.std.proofs.Common.{sym, ◌∙◌, append-nil}
use Rattle.attr_sets.specs.Sets.{attributes}
use Rattle.dep_model.proofs.SchemeLemmas.{members_below-none}
use Rattle.table_drawing.proofs.DrawingLemmas.{row_more, row_passed}
use Rattle.table_drawing.proofs.nodes.add_rows.Goals as goal
use Rattle.table_drawing.proofs.nodes.add_rows.Goals.{then-contains+in_ok-row_text+in_ok-add, else-contains}

pub loop-attribute-init : goal.loop-attribute-init
loop-attribute-init c = rw (members_below-none (attributes c.args.scheme)) (sym (append-nil c.args.text.now.items))

pub loop-attribute-preserved : goal.loop-attribute-preserved
loop-attribute-preserved c =
    let s = c.args.schema.now in
    let scheme = attributes c.args.scheme in
    let key = attributes c.args.key in
    let n = c.loop-attribute.attribute in
    elim c.if-contains.branch [
      | then-contains+in_ok-row_text+in_ok-add w ↦
          rw w.text-is
          (row_more s scheme key n c.args.text.now.items c.loop-attribute.text.items w.add.new.text.items w.deref.result.now
          (sym w.if-contains.ensures.member) c.loop-attribute.invariant
          (w.deref.ensures.value ∙ w.in_ok-row_text.ensures.text) w.in_ok-add.ensures.added)
      | else-contains w ↦
          rw w.text-is
          (row_passed s scheme key n c.args.text.now.items c.loop-attribute.text.items (sym w.if-contains.ensures.member) c.loop-attribute.invariant)
    ]
