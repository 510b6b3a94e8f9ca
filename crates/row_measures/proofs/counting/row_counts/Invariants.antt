-- What the loop of `row_counts` keeps: the counts of the rows so far.
use Rattle.std.proofs.Common.{◌≡◌, ◌<◌, ◌==◌, ℕ, length}
use Rattle.attr_sets.specs.Attributes.{count_below}
use Rattle.row_groups.specs.Numberings.{number_at}
use Rattle.row_measures.proofs.counting.row_counts.Given as goal

abbrev pub invariant-loop-number : goal.invariant-loop-number
invariant-loop-number l = record {
  one_each : length l.counts.items ≡ l.count;
  each : (c : ℕ) → c < length l.counts.items → number_at l.counts.items c ≡ count_below (λ i. number_at l.numbers i == c) l.number-index;
}
