-- What the loop of `put_added` keeps: its text, with the lines of the schemes still to come, is whole.
use Rattle.std.proofs.Common.{◌≡◌, ◌++◌, drop}
use Rattle.std.specs.List.{flat_map}
use Rattle.dep_model.specs.Plans.{schemes_of}
use Rattle.schema_printer.specs.Spelling.{printed_names_of}
use Rattle.desk_designs.specs.SynthesisReasons.{key_text}
use Rattle.desk_designs.proofs.synthesis_reasons.put_added.Given as goal

abbrev pub invariant-loop-k : goal.invariant-loop-k
invariant-loop-k l =
    l.text.items ++ flat_map (key_text (printed_names_of l.schema)) (drop l.k (schemes_of l.all))
    ≡ l.fn.text.items ++ flat_map (key_text (printed_names_of l.schema)) (drop l.from (schemes_of l.all))
