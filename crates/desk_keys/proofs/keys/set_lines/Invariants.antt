-- What the loop of `set_lines` keeps, in terms of `sets_text` and `printed_names_of`.
use Rattle.std.proofs.Common.{◌≡◌, take}
use Rattle.desk_keys.specs.Keys.{sets_text}
use Rattle.desk_keys.proofs.keys.set_lines.Given as goal
use Rattle.schema_printer.specs.Spelling.{printed_names_of}

abbrev pub invariant-loop-set : goal.invariant-loop-set
invariant-loop-set l = l.text.items ≡ sets_text (printed_names_of l.schema) (take l.set-index l.sets)
