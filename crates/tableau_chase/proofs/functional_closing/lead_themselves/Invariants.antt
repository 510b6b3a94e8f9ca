-- What the loop of `lead_themselves` keeps: the rows that were gone through lead themselves.
use Rattle.std.proofs.Common.{◌≡◌, ℕ, ◌<◌, slice_index}
use Rattle.tableau_chase.proofs.functional_closing.lead_themselves.Given as goal

abbrev pub invariant-loop-i : goal.invariant-loop-i
invariant-loop-i l = (k : ℕ) → k < l.i → slice_index l.leaders k ≡ k
