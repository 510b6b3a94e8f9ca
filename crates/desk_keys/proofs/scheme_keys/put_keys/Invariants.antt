-- What the loop of `put_keys` keeps, in terms of `keys_text` and `printed_names_of`.
use Rattle.std.proofs.Common.{◌≡◌, ◌++◌, take}
use Rattle.desk_keys.specs.Keys.{keys_text}
use Rattle.desk_keys.proofs.scheme_keys.put_keys.Given as goal
use Rattle.schema_printer.specs.Spelling.{printed_names_of}

abbrev pub invariant-loop-key : goal.invariant-loop-key
invariant-loop-key l = l.text.items ≡ l.fn.text.items ++ keys_text (printed_names_of l.schema) (take l.key-index l.keys)
