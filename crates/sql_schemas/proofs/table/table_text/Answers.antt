-- What is left to prove of `table_text`: its clause `text`, by `TableLemmas`.
use Rattle.std.proofs.Common.{ℕ, List, [], ◌++◌, ◌∙◌, ap}
use Rattle.std.specs.Prelude.{map}
use Rattle.attr_sets.specs.Attributes.{Attributes}
use Rattle.schema_model.specs.Schemas.{nullable_of}
use Rattle.schema_printer.specs.Printing.{lines_text}
use Rattle.schema_printer.specs.Spelling.{printed_names_of}
use Rattle.sql_schemas.specs.declared.keys.TableKey.{TableKey}
use Rattle.sql_schemas.specs.KeyValues.{key_columns}
use Rattle.sql_schemas.specs.Keys.{new_keys}
use Rattle.sql_schemas.specs.Texts.{key_line}
use Rattle.sql_schemas.proofs.TableLemmas.{text_of_table}
use Rattle.sql_schemas.proofs.table.table_text.Goals as goal

pub returns : goal.returns
returns c =
    let s = c.in_ok-schema.schema in
    let last : List TableKey → List ℕ =
    λ keys. lines_text (map (key_line (printed_names_of s) (nullable_of s)) (map key_columns keys)) in
    let text =
    c.in_ok-add_key_lines.ensures.added
    ∙ ap (λ (t : List ℕ). t ++ last c.deref.result.now) c.in_ok-text.ensures.text in
    record {
      text = text_of_table c.args.columns.now (map key_columns c.args.keys.now) s c.deps.result.now (map key_columns c.deref.result.now)
          c.width.result c.add_key_lines.new.text.items c.in_ok-schema.ensures.schema c.deps.ensures.deps c.width.ensures.count
          (ap (map key_columns) c.deref.ensures.value ∙ c.in_ok-kept.ensures.keys
          ∙ ap (λ (x : Attributes). new_keys c.width.result x [] (map key_columns c.args.keys.now))
          c.nullable.ensures.nullable) text;
    }
