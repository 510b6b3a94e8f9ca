-- What the loop of `put_cuts` keeps, in terms of `cut_text`.
use Rattle.std.proofs.Common.{◌≡◌, ◌++◌, take}
use Rattle.std.specs.List.{flat_map}
use Rattle.schema_printer.specs.Spelling.{printed_names_of}
use Rattle.split_forms.specs.Steps.{cuttings_of}
use Rattle.desk_designs.specs.SplitReasons.{cut_text}
use Rattle.desk_designs.proofs.split_reasons.put_cuts.Given as goal

abbrev pub invariant-loop-cut : goal.invariant-loop-cut
invariant-loop-cut l =
    l.text.items ≡ l.fn.text.items ++ flat_map (cut_text (printed_names_of l.schema) l.form) (cuttings_of (take l.cut-index l.cuts))
