-- What the loop of `put_left_out` keeps: its text, with the lines of the schemes still to come, is whole.
use Rattle.std.proofs.Common.{◌≡◌, ◌++◌, [], take, drop}
use Rattle.std.specs.List.{flat_map}
use Rattle.schema_printer.specs.Spelling.{printed_names_of}
use Rattle.desk_designs.specs.LeftOut.{contained_after, within_text}
use Rattle.desk_designs.proofs.left_out.put_left_out.Given as goal

abbrev pub invariant-loop-i : goal.invariant-loop-i
invariant-loop-i l =
    l.text.items ++ flat_map (within_text (printed_names_of l.schema) l.kept) (contained_after (take l.i l.all) (drop l.i l.all))
    ≡ l.fn.text.items ++ flat_map (within_text (printed_names_of l.schema) l.kept) (contained_after [] l.all)
