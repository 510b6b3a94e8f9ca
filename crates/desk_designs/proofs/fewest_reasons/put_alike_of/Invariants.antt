-- What the loop of `put_alike_of` keeps, in terms of `alike_text`.
use Rattle.std.proofs.Common.{◌≡◌, ◌++◌, map, take}
use Rattle.std.specs.List.{flat_map}
use Rattle.schema_printer.specs.Spelling.{printed_names_of}
use Rattle.fewest_tables.specs.FewestSteps.{group_with}
use Rattle.desk_designs.specs.FewestReasons.{alike_text}
use Rattle.desk_designs.proofs.fewest_reasons.put_alike_of.Given as goal

abbrev pub invariant-loop-first : goal.invariant-loop-first
invariant-loop-first l =
    l.text.items ≡ l.fn.text.items ++ flat_map (alike_text (printed_names_of l.schema)) (map (group_with l.lefts) (take l.first-index l.firsts))
