-- What the loop of `add_near_lines` keeps: with the lines that are left the text is whole.
use Rattle.std.proofs.Common.{◌≡◌, ◌++◌, drop}
use Rattle.schema_printer.specs.Spelling.{printed_names_of}
use Rattle.desk_discovery.proofs.NearLemmas.{near_text_of}
use Rattle.desk_discovery.proofs.near.add_near_lines.Given as goal

abbrev pub invariant-loop-i : goal.invariant-loop-i
invariant-loop-i l =
    l.text.items ++ near_text_of (printed_names_of l.schema) (drop l.i l.deps) (drop l.i l.errors)
    ≡ l.fn.text.items ++ near_text_of (printed_names_of l.schema) l.deps l.errors
