-- What the loop of `ordinals` keeps: the count of the flags so far, and the numbers of the groups so far.
use Rattle.std.proofs.Common.{◌≡◌, ◌<◌, ℕ, length}
use Rattle.attr_sets.specs.Attributes.{count_below}
use Rattle.row_groups.specs.Numberings.{number_at}
use Rattle.legality.specs.Parts.{flag_at}
use Rattle.row_measures.specs.Broken.{ordinal}
use Rattle.row_measures.proofs.counting.ordinals.Given as goal

abbrev pub invariant-loop-flag : goal.invariant-loop-flag
invariant-loop-flag l = record {
  count : l.count ≡ count_below (flag_at l.flags) l.flag-index;
  one_each : length l.numbers.items ≡ l.flag-index;
  each : (h : ℕ) → h < l.flag-index → number_at l.numbers.items h ≡ ordinal l.flags h;
}
