-- What the loop of `put_names` keeps, in terms of `words_text`.
use Rattle.std.proofs.Common.{◌≡◌, ◌++◌, take, map}
use Rattle.schema_printer.specs.Printing.{words_text}
use Rattle.schema_printer.specs.Spelling.{spelling}
use Rattle.desk_tables.proofs.migration.put_names.Given as goal

abbrev pub invariant-loop-name : goal.invariant-loop-name
invariant-loop-name l = l.text.items ≡ l.fn.text.items ++ words_text (map (spelling l.naming) (take l.name-index l.names))
