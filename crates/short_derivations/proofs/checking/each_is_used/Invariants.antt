-- What the loop of `each_is_used` keeps: the lines before are used.
use Rattle.std.proofs.Common.{ℕ, ◌+◌, ◌<◌}
use Rattle.short_derivations.specs.Inferences.{IsUsed}
use Rattle.short_derivations.specs.Views.{lines_of}
use Rattle.short_derivations.proofs.checking.each_is_used.Given as goal

abbrev pub invariant-loop-k : goal.invariant-loop-k
invariant-loop-k l = (j : ℕ) → j + 1 < l.k → IsUsed (lines_of l.lines) j
