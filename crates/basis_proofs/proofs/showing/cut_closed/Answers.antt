-- What is left to prove of `cut_closed`: its clause `proof` and what `coalesce_with_given`
-- requires, by `ShowingLemmas`.
use Rattle.std.proofs.Common.{◌+◌, ◌*◌, arith}
use Rattle.attr_sets.specs.Sets.{attributes}
use Rattle.attr_sets.specs.declared.set.TheConstants.{MOST_ATTRIBUTES}
use Rattle.dep_model.specs.declared.dep.Dep.TheVariants.{Fd}
use Rattle.derivation.specs.Derivs.{tree_of}
use Rattle.basis_proofs.proofs.ShowingLemmas.{given_within, part_size, size_grows}
use Rattle.dep_model.proofs.FailureLemmas.{IfOk_both}
use Rattle.basis_proofs.proofs.showing.cut_closed.Goals as goal

pub coalesce_with_given-requires-clause-rhs : goal.coalesce_with_given-requires-clause-rhs
coalesce_with_given-requires-clause-rhs c = (given_within c.args.theory.now c.args.k (Fd c.args.lhs c.args.rhs) c.requires.cut.given).1

pub returns : goal.returns
returns c =
    let lossless = c.requires.cut.proof in
    record {
      proof = IfOk_both c.coalesce_with_given.result
          (c.coalesce_with_given.ensures.proves (attributes c.args.from.lhs) (attributes c.args.from.part) (attributes c.args.lhs) c.requires.cut.cutting.apart lossless.member lossless.proves c.in_ok-given.ensures.proves)
          (c.coalesce_with_given.ensures.size (8 * MOST_ATTRIBUTES + 2) (5 * MOST_ATTRIBUTES + 2) (part_size c.args.theory.now (attributes c.args.from.lhs) c.args.attribute (attributes c.args.from.part) (tree_of c.args.from.deriv.value) lossless) c.in_ok-given.ensures.size)
          (λ b proves size. record { proves = proves; size = size_grows (tree_of b.value) (8 * MOST_ATTRIBUTES + 2 + 4) (5 * MOST_ATTRIBUTES + 2 + 3) (8 * MOST_ATTRIBUTES + 6) (5 * MOST_ATTRIBUTES + 6) (omega arith) (omega arith) size });
    }
