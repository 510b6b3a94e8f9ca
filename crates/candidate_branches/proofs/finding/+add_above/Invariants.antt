-- What the loop of `add_above` keeps: `numbers` and `added`; and by what it ends.
use Rattle.std.proofs.Common.{ℕ, List}
use Rattle.std.specs.Prelude.{All}
use Rattle.attr_sets.specs.Attributes.{Attributes}
use Rattle.dep_model.specs.Plans.{schemes_of}
use Rattle.candidate_branches.specs.Branches.{IsBranch, HasNumber}
use Rattle.candidate_branches.proofs.FindLemmas.{AddsUpTo}
use Rattle.candidate_branches.proofs.finding.+add_above.Given as goal

abbrev pub decreases-add_above : goal.decreases-add_above
decreases-add_above l = l.branch.now.left

abbrev pub invariant-loop-i : goal.invariant-loop-i
invariant-loop-i l = record {
  numbers : All HasNumber l.fn.found.items → All HasNumber l.found.items;
  added : (most a : ℕ) (es : List Attributes) → IsBranch l.width most a es l.branch
      → AddsUpTo l.width most a es l.above.items l.i (schemes_of l.fn.found.items) (schemes_of l.found.items);
}
