-- What is left to prove of `complemented_shape`: the smaller of two shapes fits and is no larger than any.
use Rattle.std.proofs.Common.{Bool, true, false}
use Rattle.attr_sets.specs.Sets.{attributes}
use Rattle.short_proofs.specs.Shapes.{IsNoLarger}
use Rattle.short_proofs.proofs.KeptLemmas.{of_both, smaller_fits, no_larger_more}
use Rattle.short_proofs.proofs.given_shapes.complemented_shape.Goals as goal

pub returns : goal.returns
returns c =
    let s = c.args.theory.now in
    let x = attributes c.args.lhs in
    let y = attributes c.args.rhs in
    record {
      fits = smaller_fits s x y c.augmented_shape.result c.augmented_shape-2.result c.smaller.result c.smaller.ensures.either c.augmented_shape.ensures.fits c.augmented_shape-2.ensures.fits;
      no_larger = of_both (λ flag. (tu ag : Bool) → IsNoLarger s x y c.args.number c.args.replicated c.args.complemented flag tu ag c.smaller.result)
          (λ tu ag. no_larger_more s x y c.args.number c.args.replicated c.args.complemented true tu ag c.augmented_shape-2.result c.smaller.result c.smaller.ensures.than_other (c.augmented_shape-2.ensures.no_larger tu ag))
          (λ tu ag. no_larger_more s x y c.args.number c.args.replicated c.args.complemented false tu ag c.augmented_shape.result c.smaller.result c.smaller.ensures.than_one (c.augmented_shape.ensures.no_larger tu ag));
    }
