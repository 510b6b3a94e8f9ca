-- What the loop of `add_schemes` keeps, in terms of `schemes_of`, `printed_names_of` and
-- `plan_text`.
use Rattle.std.proofs.Common.{◌≡◌, ◌++◌, take}
use Rattle.dep_model.specs.Plans.{schemes_of}
use Rattle.schema_printer.specs.Spelling.{printed_names_of}
use Rattle.plan_printer.specs.Printing.{plan_text}
use Rattle.plan_printer.proofs.printing.add_schemes.Given as goal

abbrev pub invariant-loop-scheme : goal.invariant-loop-scheme
invariant-loop-scheme l = l.text.items ≡ l.fn.text.items ++ plan_text (printed_names_of l.schema) (schemes_of (take l.scheme-index l.schemes))
