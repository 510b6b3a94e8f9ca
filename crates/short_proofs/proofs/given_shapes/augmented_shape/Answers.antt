-- What is left to prove of `augmented_shape`: the smaller of two shapes fits and is no larger than any.
use Rattle.std.proofs.Common.{Bool, true, false}
use Rattle.attr_sets.specs.Sets.{attributes}
use Rattle.short_proofs.specs.Shapes.{IsNoLarger}
use Rattle.short_proofs.proofs.KeptLemmas.{of_both, smaller_fits, no_larger_more}
use Rattle.short_proofs.proofs.given_shapes.augmented_shape.Goals as goal

pub returns : goal.returns
returns c =
    let s = c.args.theory.now in
    let x = attributes c.args.lhs in
    let y = attributes c.args.rhs in
    record {
      fits = smaller_fits s x y c.turned_shape.result c.turned_shape-2.result c.smaller.result c.smaller.ensures.either c.turned_shape.ensures.fits c.turned_shape-2.ensures.fits;
      no_larger = of_both (λ flag. (ag : Bool) → IsNoLarger s x y c.args.number c.args.replicated c.args.complemented c.args.augmented flag ag c.smaller.result)
          (λ ag. no_larger_more s x y c.args.number c.args.replicated c.args.complemented c.args.augmented true ag c.turned_shape-2.result c.smaller.result c.smaller.ensures.than_other (c.turned_shape-2.ensures.no_larger ag))
          (λ ag. no_larger_more s x y c.args.number c.args.replicated c.args.complemented c.args.augmented false ag c.turned_shape.result c.smaller.result c.smaller.ensures.than_one (c.turned_shape.ensures.no_larger ag));
    }
