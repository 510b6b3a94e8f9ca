-- What the loop of `print_derivation` keeps: the text of the lines before.
use Rattle.std.proofs.Common.{◌≡◌, take}
use Rattle.short_derivations.specs.Views.{lines_of}
use Rattle.derivation_printer.specs.Printing.{derivation_text}
use Rattle.derivation_printer.proofs.printing.print_derivation.Given as goal

abbrev pub invariant-loop-k : goal.invariant-loop-k
invariant-loop-k l = l.text.items ≡ derivation_text l.schema (lines_of (take l.k l.lines))
