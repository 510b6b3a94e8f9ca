-- What is left to prove of `add_attribute`: its clause `added`, by the row, the mark and the name of the attribute.
use Rattle.std.proofs.Common.{◌≡◌, ℕ, List, [], ◌++◌, subst, sym, ap, ◌∙◌}
use Rattle.std.proofs.lemmas.Option.{get_or_from_slice_get}
use Rattle.std.specs.Prelude.{OnOk}
use Rattle.attr_sets.specs.Sets.{attributes}
use Rattle.schema_model.specs.Schemas.{names_of}
use Rattle.design_picture.specs.Picture.{attribute_text, mark_of, box_name_text, row_of}
use Rattle.design_picture.proofs.boxes.add_attribute.Goals as goal

pub returns : goal.returns
unfolding attribute_text
returns c =
    let place = c.args.place in
    let table = c.args.table.now in
    let k = c.args.attribute in
    record {
      added = subst (λ (t : List ℕ). OnOk c.add_name.result (c.add_name.new.text.items ≡ c.args.text.now.items ++ t))
          (ap (λ (row : ℕ). box_name_text place row c.mark_of.result.now c.bytes.result.now) c.row_of.ensures.row
          ∙ ap (λ (mark : List ℕ). box_name_text place (row_of (attributes table.scheme) k) mark c.bytes.result.now)
          c.mark_of.ensures.mark
          ∙ ap (λ (name : List ℕ). box_name_text place (row_of (attributes table.scheme) k) (mark_of table k) name)
          (c.bytes.ensures.value
          ∙ sym (get_or_from_slice_get (names_of c.args.schema.now) k c.name.result.now [] c.name.ensures.name)))
          c.add_name.ensures.added;
    }
