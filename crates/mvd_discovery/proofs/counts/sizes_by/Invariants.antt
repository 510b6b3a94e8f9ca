-- What the loop of `sizes_by` keeps: the sizes so far.
use Rattle.std.proofs.Common.{◌≡◌, ◌<◌, ◌==◌, ℕ, length}
use Rattle.attr_sets.specs.Attributes.{count_below}
use Rattle.row_groups.specs.Interning.{groups_of, firsts_of}
use Rattle.row_groups.specs.Numberings.{number_at}
use Rattle.mvd_discovery.proofs.counts.sizes_by.Given as goal

abbrev pub invariant-loop-row : goal.invariant-loop-row
invariant-loop-row l = record {
  one_each : length l.sizes.items ≡ l.row-index;
  each : (j : ℕ) → j < l.row-index → number_at l.sizes.items j
      ≡ count_below (λ k. number_at (groups_of l.groups) (number_at (firsts_of l.different) k)
      == number_at (groups_of l.groups) (number_at (firsts_of l.different) j)) (length (firsts_of l.different));
}
