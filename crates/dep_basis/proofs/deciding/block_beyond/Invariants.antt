-- What the loop of `block_beyond` keeps: `within` and `closed`; and by what it ends.
use Rattle.std.proofs.Common.{◌≡◌, ℕ, true, false}
use Rattle.attr_sets.specs.Attributes.{IsSubset, count_below}
use Rattle.attr_sets.specs.Sets.{attributes}
use Rattle.attr_sets.specs.declared.set.TheConstants.{MOST_ATTRIBUTES}
use Rattle.dep_model.specs.Deps.{dependencies_of}
use Rattle.dep_model.specs.Keys.{InClosure}
use Rattle.dep_basis.proofs.deciding.block_beyond.Given as goal

abbrev pub invariant-loop-first : goal.invariant-loop-first
invariant-loop-first l = record {
  within : IsSubset (attributes l.left) (attributes l.fn.rhs);
  closed : (b : ℕ) → attributes l.fn.rhs b ≡ true → attributes l.left b ≡ false → InClosure l.width (dependencies_of l.deps) (attributes l.lhs) b;
}

abbrev pub decreases-loop-first : goal.decreases-loop-first
decreases-loop-first l = count_below (attributes l.left) MOST_ATTRIBUTES
