-- What the loop of `put_without` keeps, in terms of `without_text`.
use Rattle.std.proofs.Common.{◌≡◌, ◌++◌, take}
use Rattle.std.specs.List.{flat_map}
use Rattle.schema_printer.specs.Spelling.{printed_names_of}
use Rattle.desk_keys.specs.KeyChecks.{without_text}
use Rattle.desk_keys.proofs.key_checks.put_without.Given as goal

abbrev pub invariant-loop-one : goal.invariant-loop-one
invariant-loop-one l = l.text.items ≡ l.fn.text.items ++ flat_map (without_text (printed_names_of l.schema)) (take l.one-index l.found)
