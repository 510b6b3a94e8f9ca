-- What the loop of `add_left_out_keys` keeps: the lines of the keys so far.
use Rattle.std.proofs.Common.{◌≡◌, ◌++◌, take}
use Rattle.dep_model.specs.Plans.{schemes_of}
use Rattle.ddl_text.proofs.TextLemmas.{left_out_lines}
use Rattle.ddl_text.proofs.printing.add_left_out_keys.Given as goal

abbrev pub invariant-loop-key : goal.invariant-loop-key
invariant-loop-key l =
    l.text.items ≡ l.fn.text.items ++ left_out_lines l.schema (schemes_of (take l.key-index l.keys))
