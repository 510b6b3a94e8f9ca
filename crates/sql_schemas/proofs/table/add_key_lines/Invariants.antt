-- What the loop of `add_key_lines` keeps: the lines of the keys so far stand at the end of the text.
use Rattle.std.proofs.Common.{◌≡◌, ◌++◌, take}
use Rattle.std.specs.Prelude.{map}
use Rattle.schema_model.specs.Schemas.{nullable_of}
use Rattle.schema_printer.specs.Printing.{lines_text}
use Rattle.schema_printer.specs.Spelling.{printed_names_of}
use Rattle.sql_schemas.specs.KeyValues.{key_columns}
use Rattle.sql_schemas.specs.Texts.{key_line}
use Rattle.sql_schemas.proofs.table.add_key_lines.Given as goal

abbrev pub invariant-loop-key : goal.invariant-loop-key
invariant-loop-key l =
    l.text.items ≡ l.fn.text.items
    ++ lines_text (map (key_line (printed_names_of l.schema) (nullable_of l.schema)) (map key_columns (take l.key-index l.keys)))
