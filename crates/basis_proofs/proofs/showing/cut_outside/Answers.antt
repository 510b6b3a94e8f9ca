-- What is left to prove of `cut_outside`: what it answers in the case `Ok`, by `part_in_side` and
-- `next_part_outside`.
use Rattle.std.proofs.Common.{◌≡◌, refl, subst}
use Rattle.attr_sets.specs.Attributes.{Attributes, difference}
use Rattle.attr_sets.specs.Sets.{attributes}
use Rattle.dep_model.specs.Dependencies.{left_of, right_of}
use Rattle.dep_model.specs.Deps.{dependency_of}
use Rattle.derivation.specs.Derivs.{tree_of}
use Rattle.basis_proofs.proofs.ShowingLemmas.{part_in_side, next_part_outside}
use Rattle.basis_proofs.proofs.showing.cut_outside.Goals as goal

pub returns-in-Ok : goal.returns-in-Ok
returns-in-Ok c =
    let from = c.args.from in
    let d = dependency_of c.args.dep in
    let is : attributes c.difference.result ≡ difference (attributes from.part) (right_of d) =
    subst (λ (t : Attributes). attributes c.difference.result ≡ difference (attributes from.part) t) c.sides.ensures.right c.difference.ensures.members in
    record {
      proof = next_part_outside c.args.theory.now c.args.attribute c.args.k c.args.dep from (record { lhs = from.lhs; part = c.difference.result; deriv = c.in-Ok.deriv })
          (tree_of c.in_ok-given.given.value) c.requires.cut refl c.in_ok-given.ensures.size c.in-Ok.ensures.size c.requires.without is
          (c.in-Ok.ensures.concludes (left_of d) (right_of d) c.requires.cut.proof.candidate.outside (part_in_side (attributes from.part) d c.requires.cut.cutting) c.requires.cut.proof.proves c.in_ok-given.ensures.proves);
    }
