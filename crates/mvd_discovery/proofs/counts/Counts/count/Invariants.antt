-- What the loop of `Counts::count` keeps: the sizes by the sets so far.
use Rattle.std.proofs.Common.{◌≡◌, ◌<◌, ℕ, [], length, slice_index_or}
use Rattle.attr_sets.specs.Sets.{attributes}
use Rattle.row_groups.specs.Interning.{firsts_of}
use Rattle.mvd_laws.specs.Sizes.{AreSizes}
use Rattle.mvd_discovery.specs.Counting.{set_of}
use Rattle.mvd_discovery.proofs.counts.Counts.count.Given as goal

abbrev pub invariant-loop-number : goal.invariant-loop-number
invariant-loop-number l = record {
  all : length l.by_set.items ≡ l.number;
  sizes : (k : ℕ) → k < l.number → AreSizes l.rows (firsts_of l.different) (attributes (set_of k)) (slice_index_or l.by_set.items k []);
}
