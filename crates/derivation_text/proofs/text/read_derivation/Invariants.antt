-- What the loop of `read_derivation` keeps: `Reads`; and by what it ends.
use Rattle.std.proofs.Common.{length}
use Rattle.derivation_text.specs.Views.{derivation_lines_of}
use Rattle.derivation_text.proofs.ReadingLemmas.{Reads}
use Rattle.derivation_text.proofs.text.read_derivation.Given as goal

abbrev pub invariant-lines : goal.invariant-lines
invariant-lines l = Reads l.schema l.fn.text l.fresh l.number (derivation_lines_of l.before.items) l.rest

abbrev pub decreases-lines : goal.decreases-lines
decreases-lines l = length l.rest
