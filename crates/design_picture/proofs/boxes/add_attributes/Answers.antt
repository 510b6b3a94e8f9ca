-- What is left to prove of `add_attributes`: that the invariant of its loop holds at first and stays, by
-- `attribute_more` and `attribute_passed`.
use Rattle.std.proofs.Common.{sym, append-nil}
use Rattle.attr_sets.specs.Sets.{attributes}
use Rattle.dep_model.proofs.SchemeLemmas.{members_below-none}
use Rattle.design_picture.proofs.PictureLemmas.{attribute_more, attribute_passed}
use Rattle.design_picture.proofs.boxes.add_attributes.Goals as goal
use Rattle.design_picture.proofs.boxes.add_attributes.Goals.{then-contains+in_ok-add_attribute, else-contains}

pub loop-attribute-init : goal.loop-attribute-init
loop-attribute-init c = rw (members_below-none (attributes c.args.table.now.scheme)) (sym (append-nil c.args.text.now.items))

pub loop-attribute-preserved : goal.loop-attribute-preserved
loop-attribute-preserved c =
    let s = c.args.schema.now in
    let table = c.args.table.now in
    let n = c.loop-attribute.attribute in
    elim c.if-contains.branch [
      | then-contains+in_ok-add_attribute w ↦
          rw w.text-is
          (attribute_more s table c.args.place (attributes table.scheme) n c.args.text.now.items c.loop-attribute.text.items
          w.add_attribute.new.text.items (sym w.if-contains.ensures.member) c.loop-attribute.invariant w.in_ok-add_attribute.ensures.added)
      | else-contains w ↦
          rw w.text-is
          (attribute_passed s table c.args.place (attributes table.scheme) n c.args.text.now.items c.loop-attribute.text.items
          (sym w.if-contains.ensures.member) c.loop-attribute.invariant)
    ]
