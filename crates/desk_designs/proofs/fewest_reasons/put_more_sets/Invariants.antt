-- What the loop of `put_more_sets` keeps: its text, with the lines of the schemes still to come, is whole.
use Rattle.std.proofs.Common.{◌≡◌, ◌++◌, drop}
use Rattle.std.specs.List.{flat_map}
use Rattle.dep_model.specs.Plans.{schemes_of}
use Rattle.schema_printer.specs.Spelling.{printed_names_of}
use Rattle.desk_designs.specs.FewestReasons.{next_set}
use Rattle.desk_designs.proofs.fewest_reasons.put_more_sets.Given as goal

abbrev pub invariant-loop-k : goal.invariant-loop-k
invariant-loop-k l =
    l.text.items ++ flat_map (next_set (printed_names_of l.schema)) (drop l.k (schemes_of l.sets))
    ≡ l.fn.text.items ++ flat_map (next_set (printed_names_of l.schema)) (drop 1 (schemes_of l.sets))
