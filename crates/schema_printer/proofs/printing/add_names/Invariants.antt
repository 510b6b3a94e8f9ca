-- What the loop of `add_names` keeps, in terms of `printed_names_of` and `words_text`.
use Rattle.std.proofs.Common.{◌≡◌, ◌++◌, drop}
use Rattle.schema_printer.specs.Spelling.{printed_names_of}
use Rattle.schema_printer.specs.Printing.{words_text}
use Rattle.schema_printer.proofs.printing.add_names.Given as goal

abbrev pub invariant-loop-attribute : goal.invariant-loop-attribute
invariant-loop-attribute l = l.text.items ++ words_text (drop l.attribute (printed_names_of l.schema)) ≡ l.fn.text.items ++ words_text (printed_names_of l.schema)
