-- What the loop of `count_rows` keeps: the count of the rows so far.
use Rattle.std.proofs.Common.{◌≡◌}
use Rattle.attr_sets.specs.Attributes.{count_below}
use Rattle.row_groups.specs.Numberings.{number_at}
use Rattle.legality.specs.Parts.{flag_at}
use Rattle.row_measures.proofs.counting.count_rows.Given as goal

abbrev pub invariant-loop-group : goal.invariant-loop-group
invariant-loop-group l = record { count : l.count ≡ count_below (λ i. flag_at l.flags (number_at l.groups i)) l.group-index }
