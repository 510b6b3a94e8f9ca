-- What is left to prove of `smallest_shape`: that a round of its loop keeps the invariant.
use Rattle.std.proofs.Common.{ℕ, ◌≡◌, sym, subst, ⊎_elim, arith}
use Rattle.std.proofs.lemmas.Bool.{cases_lt}
use Rattle.attr_sets.specs.Sets.{attributes}
use Rattle.short_proofs.specs.Shapes.{IsNoLarger}
use Rattle.short_proofs.proofs.KeptLemmas.{smaller_fits, no_larger_more}
use Rattle.short_proofs.proofs.given_shapes.smallest_shape.Goals as goal

pub loop-number-preserved : goal.loop-number-preserved
loop-number-preserved c =
    let s = c.args.theory.now in
    let x = attributes c.args.lhs in
    let y = attributes c.args.rhs in
    let i = c.loop-number.number in
    let found = c.loop-number.found in
    let more = c.smaller-found.result in
    record {
      fits = smaller_fits s x y found c.shape_of_given.result more c.smaller-found.ensures.either c.loop-number.invariant.fits c.shape_of_given.ensures.fits;
      no_larger = λ k r co a t g less. ⊎_elim
          (λ earlier. no_larger_more s x y k r co a t g found more c.smaller-found.ensures.than_one (c.loop-number.invariant.no_larger k r co a t g earlier))
          (λ late.
          let here : k ≡ i = omega (arith, less, late) in
          subst (λ (j : ℕ). IsNoLarger s x y j r co a t g more) (sym here) (no_larger_more s x y i r co a t g c.shape_of_given.result more c.smaller-found.ensures.than_other (c.shape_of_given.ensures.no_larger r co a t g)))
          (cases_lt k i);
    }
