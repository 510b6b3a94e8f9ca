-- What is left to prove of `value_text`: its clause `text`, by the type and the name of the attribute.
use Rattle.std.proofs.Common.{◌≡◌, ℕ, Bool, true, false, List, [], Some, subst, sym, ap, ◌∙◌}
use Rattle.std.proofs.lemmas.Option.{get_or_from_slice_get}
use Rattle.std.specs.Prelude.{IfOk, if◌then◌else◌, slice_get}
use Rattle.schema_model.specs.declared.column_type.ColumnType.{ColumnType}
use Rattle.schema_model.specs.declared.column_type.ColumnType.TheVariants.{Text}
use Rattle.schema_model.specs.declared.naming.Naming.{Naming}
use Rattle.schema_model.specs.Schemas.{Schema}
use Rattle.schema_model.specs.Schemas.{naming_of, names_of, types_of}
use Rattle.schema_printer.specs.Printing.{is_integer}
use Rattle.sql_check.specs.Columns.{name_at}
use Rattle.sql_scripts.specs.Checking.{integer_check_text, value_text}
use Rattle.sql_scripts.proofs.integers.value_text.Goals as goal

value_is : (s : Schema) (table : List ℕ) (k : ℕ) (column : ColumnType) (b : Bool) → slice_get (types_of s) k ≡ Some column → is_integer column ≡ b
    → (if b then integer_check_text (naming_of s) table (name_at s k) else []) ≡ value_text s table k
value_is s table k column b at is =
    ap (λ (b : Bool). if b then integer_check_text (naming_of s) table (name_at s k) else [])
    (sym (ap (λ (t : ColumnType). is_integer t) (get_or_from_slice_get (types_of s) k column Text at) ∙ is))

pub returns-then-not-is_integer : goal.returns-then-not-is_integer
returns-then-not-is_integer c = record {
  text = c.new.ensures.items
      ∙ value_is c.args.schema.now c.args.table.now c.args.attribute c.column.result false c.column.ensures.column
      (sym c.is_integer.ensures.integer ∙ c.if-not-is_integer.true);
}

pub returns : goal.returns
returns c =
    let s = c.args.schema.now in
    let table = c.args.table.now in
    record {
      text = subst (λ (t : List ℕ). IfOk c.integer_check_text.result (λ text. text.items ≡ t))
          (ap (λ (n : Naming). integer_check_text n table c.name.result.now) c.naming.ensures.naming
          ∙ ap (λ (name : List ℕ). integer_check_text (naming_of s) table name)
          (sym (get_or_from_slice_get (names_of s) c.args.attribute c.name.result.now [] c.name.ensures.name))
          ∙ value_is s table c.args.attribute c.column.result true c.column.ensures.column
          (sym c.is_integer.ensures.integer ∙ c.if-not-is_integer.false))
          c.integer_check_text.ensures.text;
    }
