-- What the loop of `substituted` keeps: the lines are written.
use Rattle.short_derivations.specs.Emitted.{AreWritten}
use Rattle.short_derivations.specs.Views.{lines_of}
use Rattle.short_derivations.proofs.substituting.substituted.Given as goal

abbrev pub invariant-loop-i : goal.invariant-loop-i
invariant-loop-i l = AreWritten l.theory (lines_of l.lines.items)
