-- What is left to prove of `shape_of_given`: the smaller of two shapes fits and is no larger than any.
use Rattle.std.proofs.Common.{Bool, true, false}
use Rattle.attr_sets.specs.Sets.{attributes}
use Rattle.short_proofs.specs.Shapes.{IsNoLarger}
use Rattle.short_proofs.proofs.KeptLemmas.{of_both, smaller_fits, no_larger_more}
use Rattle.short_proofs.proofs.given_shapes.shape_of_given.Goals as goal

pub returns : goal.returns
returns c =
    let s = c.args.theory.now in
    let x = attributes c.args.lhs in
    let y = attributes c.args.rhs in
    record {
      fits = smaller_fits s x y c.replicated_shape.result c.replicated_shape-2.result c.smaller.result c.smaller.ensures.either c.replicated_shape.ensures.fits c.replicated_shape-2.ensures.fits;
      no_larger = of_both (λ flag. (co au tu ag : Bool) → IsNoLarger s x y c.args.number flag co au tu ag c.smaller.result)
          (λ co au tu ag. no_larger_more s x y c.args.number true co au tu ag c.replicated_shape-2.result c.smaller.result c.smaller.ensures.than_other (c.replicated_shape-2.ensures.no_larger co au tu ag))
          (λ co au tu ag. no_larger_more s x y c.args.number false co au tu ag c.replicated_shape.result c.smaller.result c.smaller.ensures.than_one (c.replicated_shape.ensures.no_larger co au tu ag));
    }
