-- What the loop of `read_concluded` keeps: `Reads`; and by what it ends.
use Rattle.std.proofs.Common.{length}
use Rattle.proof_text.specs.Views.{checker_state_of}
use Rattle.proof_text.proofs.TextLemmas.{Reads}
use Rattle.proof_text.proofs.text.read_concluded.Given as goal

abbrev pub invariant-lines : goal.invariant-lines
invariant-lines l = Reads l.schema l.fn.text l.fresh l.number (checker_state_of l.state) l.rest

abbrev pub decreases-lines : goal.decreases-lines
decreases-lines l = length l.rest
