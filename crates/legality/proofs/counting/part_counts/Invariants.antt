-- What the loop of `part_counts` keeps: `one_each` and `count`.
use Rattle.std.proofs.Common.{◌≡◌, ◌<◌, ◌==◌, ℕ, length}
use Rattle.attr_sets.specs.Attributes.{count_below}
use Rattle.row_groups.specs.Interning.{groups_of, firsts_of}
use Rattle.row_groups.specs.Numberings.{number_at}
use Rattle.legality.proofs.counting.part_counts.Given as goal

-- each group has so many of the parts so far
abbrev pub invariant-loop-row : goal.invariant-loop-row
invariant-loop-row l = record {
  one_each : length l.counts.items ≡ length (firsts_of l.groups);
  count : (h : ℕ) → h < length l.counts.items
      → number_at l.counts.items h ≡ count_below (λ g. number_at (groups_of l.groups) (number_at (firsts_of l.parts) g) == h) l.row-index;
}
