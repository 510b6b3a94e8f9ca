-- What the loop of `flags_set` keeps: how many flags so far are set.
use Rattle.std.proofs.Common.{◌≡◌, ◌≤◌}
use Rattle.attr_sets.specs.Attributes.{count_below}
use Rattle.legality.specs.Parts.{flag_at}
use Rattle.desk_measures.proofs.columns.flags_set.Given as goal

abbrev pub invariant-loop-row : goal.invariant-loop-row
invariant-loop-row l = record {
  count : l.count ≡ count_below (flag_at l.flags) l.row;
  few : l.count ≤ l.row;
}
