-- What the loop of `add_deps` keeps: the lines of the dependencies that were gone through.
use Rattle.std.proofs.Common.{◌≡◌, ◌++◌, map, take}
use Rattle.dep_model.specs.Deps.{dependencies_of}
use Rattle.schema_printer.specs.Printing.{dependency_text, lines_text}
use Rattle.schema_printer.specs.Spelling.{printed_names_of}
use Rattle.schema_printer.proofs.printing.add_deps.Given as goal

abbrev pub invariant-loop-dep : goal.invariant-loop-dep
invariant-loop-dep l =
    l.text.items ≡ l.initial.text.items
    ++ lines_text (map (dependency_text (printed_names_of l.schema)) (dependencies_of (take l.dep-index l.deps)))
