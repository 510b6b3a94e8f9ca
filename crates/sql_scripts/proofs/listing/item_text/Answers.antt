-- What is left to prove of `item_text`: its clause `text`, by the type and the name of the attribute.
use Rattle.std.proofs.Common.{◌≡◌, ℕ, Bool, List, [], subst, sym, ap, ◌∙◌}
use Rattle.std.proofs.lemmas.Option.{get_or_from_slice_get}
use Rattle.std.specs.Prelude.{IfOk}
use Rattle.schema_model.specs.declared.column_type.ColumnType.{ColumnType}
use Rattle.schema_model.specs.declared.column_type.ColumnType.TheVariants.{Text}
use Rattle.schema_model.specs.Columns.{is_plain_type}
use Rattle.schema_model.specs.Schemas.{names_of, types_of}
use Rattle.sql_syntax.specs.Printing.{item_text}
use Rattle.sql_check.specs.Columns.{type_at}
use Rattle.sql_scripts.specs.Listing.{item_with}
use Rattle.sql_scripts.proofs.listing.item_text.Goals as goal

pub returns : goal.returns
returns c =
    let s = c.args.schema.now in
    let k = c.args.attribute in
    record {
      text = subst (λ (t : List ℕ). IfOk c.item_with.result (λ text. text.items ≡ t))
          (ap (λ (plain : Bool). item_text (item_with c.args.listed c.args.number c.name.result.now plain))
          (c.is_plain-plain.ensures.plain
          ∙ sym (ap (λ (t : ColumnType). is_plain_type t) (get_or_from_slice_get (types_of s) k c.column.result Text c.column.ensures.column)))
          ∙ ap (λ (name : List ℕ). item_text (item_with c.args.listed c.args.number name (is_plain_type (type_at s k))))
          (sym (get_or_from_slice_get (names_of s) k c.name.result.now [] c.name.ensures.name)))
          c.item_with.ensures.text;
    }
