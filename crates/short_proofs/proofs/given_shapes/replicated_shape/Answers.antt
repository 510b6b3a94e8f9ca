-- What is left to prove of `replicated_shape`: the smaller of two shapes fits and is no larger than any.
use Rattle.std.proofs.Common.{Bool, true, false}
use Rattle.attr_sets.specs.Sets.{attributes}
use Rattle.short_proofs.specs.Shapes.{IsNoLarger}
use Rattle.short_proofs.proofs.KeptLemmas.{of_both, smaller_fits, no_larger_more}
use Rattle.short_proofs.proofs.given_shapes.replicated_shape.Goals as goal

pub returns : goal.returns
returns c =
    let s = c.args.theory.now in
    let x = attributes c.args.lhs in
    let y = attributes c.args.rhs in
    record {
      fits = smaller_fits s x y c.complemented_shape.result c.complemented_shape-2.result c.smaller.result c.smaller.ensures.either c.complemented_shape.ensures.fits c.complemented_shape-2.ensures.fits;
      no_larger = of_both (λ flag. (au tu ag : Bool) → IsNoLarger s x y c.args.number c.args.replicated flag au tu ag c.smaller.result)
          (λ au tu ag. no_larger_more s x y c.args.number c.args.replicated true au tu ag c.complemented_shape-2.result c.smaller.result c.smaller.ensures.than_other (c.complemented_shape-2.ensures.no_larger au tu ag))
          (λ au tu ag. no_larger_more s x y c.args.number c.args.replicated false au tu ag c.complemented_shape.result c.smaller.result c.smaller.ensures.than_one (c.complemented_shape.ensures.no_larger au tu ag));
    }
