-- What is left to prove of `attribute_columns`: its clause `columns`, by the name of the attribute.
use Rattle.std.proofs.Common.{◌≡◌, ℕ, List, [], subst, sym, ◌∙◌}
use Rattle.std.proofs.lemmas.Option.{get_or_from_slice_get}
use Rattle.std.specs.Prelude.{IfOk}
use Rattle.schema_model.specs.Schemas.{names_of}
use Rattle.design_picture.specs.Places.{attribute_columns, name_columns}
use Rattle.design_picture.proofs.sizes.attribute_columns.Goals as goal

pub returns : goal.returns
unfolding attribute_columns
returns c = record {
  columns = subst (λ (name : List ℕ). IfOk c.name_columns.result (λ columns. columns ≡ name_columns name))
      (c.bytes.ensures.value
      ∙ sym (get_or_from_slice_get (names_of c.args.schema.now) c.args.attribute c.name.result.now [] c.name.ensures.name))
      c.name_columns.ensures.columns;
}
