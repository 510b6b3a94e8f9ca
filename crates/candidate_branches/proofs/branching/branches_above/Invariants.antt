-- What the loop of `branches_above` keeps: `lower`, `free` and `above`.
use Rattle.std.proofs.Common.{ℕ, ◌<◌, List}
use Rattle.std.specs.Prelude.{All}
use Rattle.attr_sets.specs.Attributes.{Attributes}
use Rattle.attr_sets.specs.Sets.{attributes}
use Rattle.candidate_branches.specs.declared.branch.Branch.{Branch}
use Rattle.candidate_branches.specs.Branches.{IsBranch}
use Rattle.candidate_branches.proofs.BranchLemmas.{AreAboveUpTo, AreFree}
use Rattle.candidate_branches.proofs.branching.branches_above.Given as goal

abbrev pub invariant-loop-column : goal.invariant-loop-column
invariant-loop-column l = record {
  lower : All (λ (b : Branch). b.left < l.branch.left) l.above.items;
  are_free : AreFree (attributes l.branch.free) (attributes l.columns) (attributes l.free) l.column;
  above : (most a : ℕ) (es : List Attributes) → IsBranch l.width most a es l.branch
      → AreAboveUpTo l.width most a es l.branch (attributes l.columns) l.column l.above.items;
}
