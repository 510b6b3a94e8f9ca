-- What the loop of `put_groups` keeps, in terms of `group_text`.
use Rattle.std.proofs.Common.{◌≡◌, ◌++◌, take}
use Rattle.std.specs.List.{flat_map}
use Rattle.dep_model.specs.Deps.{dependencies_of}
use Rattle.dep_model.specs.Plans.{schemes_of}
use Rattle.schema_printer.specs.Spelling.{printed_names_of}
use Rattle.desk_designs.specs.SynthesisReasons.{group_text}
use Rattle.desk_designs.proofs.synthesis_reasons.put_groups.Given as goal

abbrev pub invariant-loop-left : goal.invariant-loop-left
invariant-loop-left l =
    l.text.items ≡ l.fn.text.items ++ flat_map (group_text (printed_names_of l.schema) (dependencies_of l.cover))
    (schemes_of (take l.left-index l.lefts))
