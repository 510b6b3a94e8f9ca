-- What is left to prove of `column_at`: its clause `text`, by the type and the name of the attribute.
use Rattle.std.proofs.Common.{◌≡◌, ℕ, Bool, List, [], subst, sym, ap, ◌∙◌}
use Rattle.std.proofs.lemmas.Option.{get_or_from_slice_get}
use Rattle.std.specs.Prelude.{IfOk}
use Rattle.schema_model.specs.declared.column_type.ColumnType.{ColumnType}
use Rattle.schema_model.specs.declared.column_type.ColumnType.TheVariants.{Text}
use Rattle.schema_model.specs.Schemas.{names_of, types_of}
use Rattle.schema_printer.specs.Printing.{is_integer}
use Rattle.sql_syntax.specs.Printing.{item_text}
use Rattle.sql_check.specs.Columns.{type_at}
use Rattle.sql_migrate.specs.Moving.{moved}
use Rattle.sql_scripts.proofs.columns.column_at.Goals as goal

pub returns : goal.returns
returns c =
    let s = c.args.schema.now in
    let k = c.args.attribute in
    record {
      text = subst (λ (t : List ℕ). IfOk c.moved_column.result (λ text. text.items ≡ t))
          (ap (λ (of_integer : Bool). item_text (moved c.args.how c.name.result.now of_integer))
          (c.is_integer-of_integer.ensures.integer
          ∙ sym (ap (λ (t : ColumnType). is_integer t) (get_or_from_slice_get (types_of s) k c.column.result Text c.column.ensures.column)))
          ∙ ap (λ (name : List ℕ). item_text (moved c.args.how name (is_integer (type_at s k))))
          (sym (get_or_from_slice_get (names_of s) k c.name.result.now [] c.name.ensures.name)))
          c.moved_column.ensures.text;
    }
