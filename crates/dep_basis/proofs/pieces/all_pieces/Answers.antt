-- What is left to prove of `all_pieces`: its clause `pieces` and what `refine` requires, by
-- `BasisLemmas` and `PieceLemmas`.
use Rattle.std.proofs.Common.{◌≡◌, refl, arith}
use mathlib.Core.Path.{fun_ext}
use Rattle.attr_sets.specs.Attributes.{below, difference}
use Rattle.attr_sets.specs.Sets.{attributes}
use Rattle.attr_sets.specs.declared.set.TheConstants.{MOST_ATTRIBUTES}
use Rattle.attr_sets.proofs.AttributesLemmas.{count_below-le, same_at}
use Rattle.dep_model.specs.Deps.{dependencies_of}
use Rattle.dep_basis.proofs.BasisLemmas.{closure_between}
use Rattle.dep_basis.proofs.PieceLemmas.{first_refined, all_refined}
use Rattle.dep_basis.proofs.pieces.all_pieces.Goals as goal

pub refine-requires : goal.refine-requires
refine-requires c = record { room = record { size = refl; room = omega (arith, count_below-le MOST_ATTRIBUTES (attributes c.difference-outside.result)) } }

pub returns : goal.returns
returns c =
    let n = c.args.width in
    let deps = c.args.deps.now in
    let x = attributes c.args.lhs in
    let more = attributes c.functional_closure.result in
    let w = attributes c.difference-outside.result in
    let between = closure_between n (dependencies_of deps) x more c.requires.lhs (c.functional_closure.ensures.closure n c.requires.deps c.requires.lhs) in
    let is : w ≡ difference (below n) more = fun_ext (λ k. grind (arith, same_at c.difference-outside.ensures.members k, same_at c.full.ensures.members k)) in
    record {
      pieces = all_refined n deps x more w c.refine.new.found _ between.0 between.2 is (first_refined n deps more w c.requires.deps between.1 is) refl
          (omega (arith, c.refine.ensures.refined.room, count_below-le MOST_ATTRIBUTES w)) c.refine.ensures.refined;
    }
