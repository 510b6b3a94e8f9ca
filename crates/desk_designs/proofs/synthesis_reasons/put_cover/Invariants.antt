-- What the loop of `put_cover` keeps, in terms of `cover_text`.
use Rattle.std.proofs.Common.{◌≡◌, ◌++◌, take}
use Rattle.dep_model.specs.Deps.{dependencies_of}
use Rattle.schema_printer.specs.Spelling.{printed_names_of}
use Rattle.desk_designs.specs.SynthesisReasons.{cover_text}
use Rattle.desk_designs.proofs.synthesis_reasons.put_cover.Given as goal

abbrev pub invariant-loop-dep : goal.invariant-loop-dep
invariant-loop-dep l =
    l.text.items ≡ l.fn.text.items ++ cover_text (printed_names_of l.schema) (dependencies_of (take l.dep-index l.cover))
