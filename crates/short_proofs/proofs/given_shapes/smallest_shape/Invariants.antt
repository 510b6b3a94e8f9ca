-- What the loop of `smallest_shape` keeps: the shape fits, and is no larger than any of those gone through.
use Rattle.std.proofs.Common.{ℕ, ◌<◌, Bool}
use Rattle.std.specs.Prelude.{IfSome}
use Rattle.attr_sets.specs.Sets.{attributes}
use Rattle.short_proofs.specs.Shapes.{Fits, IsNoLarger}
use Rattle.short_proofs.proofs.given_shapes.smallest_shape.Given as goal

abbrev pub invariant-loop-number : goal.invariant-loop-number
invariant-loop-number l = record {
  fits : IfSome l.found (Fits l.theory (attributes l.lhs) (attributes l.rhs));
  no_larger : (k : ℕ) (r c a t g : Bool) → k < l.number → IsNoLarger l.theory (attributes l.lhs) (attributes l.rhs) k r c a t g l.found;
}
