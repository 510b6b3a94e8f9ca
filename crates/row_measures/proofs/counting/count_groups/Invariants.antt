-- What the loop of `count_groups` keeps: the count of the flags so far.
use Rattle.std.proofs.Common.{◌≡◌}
use Rattle.attr_sets.specs.Attributes.{count_below}
use Rattle.legality.specs.Parts.{flag_at}
use Rattle.row_measures.proofs.counting.count_groups.Given as goal

abbrev pub invariant-loop-flag : goal.invariant-loop-flag
invariant-loop-flag l = record { count : l.count ≡ count_below (flag_at l.flags) l.flag-index }
