-- What is left to prove of `join_mvd`: that the invariant of its loop holds at first and stays and
-- that its loop ends, by `JoiningLemmas`.
use Rattle.std.proofs.Common.{◌≡◌, true, refl, sym, arith}
use mathlib.Core.Path.{fun_ext}
use Rattle.attr_sets.specs.Attributes.{union, difference}
use Rattle.attr_sets.specs.Sets.{attributes}
use Rattle.derivation.specs.Derivs.{tree_of}
use Rattle.attr_sets.proofs.AttributesLemmas.{same_at}
use Rattle.derivation.proofs.ProvesLemmas.{mvd_restated}
use Rattle.basis_proofs.proofs.JoiningLemmas.{left_first, right_first, right_next, left_fewer, left_next}
use Rattle.basis_proofs.proofs.joining.join_mvd.Goals as goal

pub loop-first-init : goal.loop-first-init
loop-first-init c =
    let x = attributes c.args.lhs in
    let y = attributes c.args.rhs in
    let left = attributes c.difference-left.result in
    let t = tree_of c.in_ok-joined.joined.value in
    record {
      left = left_first x y left t c.difference-left.ensures.members c.in_ok-joined.ensures.size;
      proves = mvd_restated c.args.theory.now t x (attributes c.intersection.result) x (difference y left) refl
          (right_first x y left (attributes c.intersection.result) c.difference-left.ensures.members c.intersection.ensures.members) c.in_ok-joined.ensures.proves;
    }

pub loop-first-smaller : goal.loop-first-smaller
loop-first-smaller c =
    left_fewer (attributes c.loop-first.left) (attributes c.difference-left-in-Some.result) (attributes c.in_ok-next.next.part) c.in-Some.first c.in-Some.ensures.attribute c.in-Some.ensures.first.member
    c.in_ok-next.ensures.proof.member c.difference-left-in-Some.ensures.members

pub loop-first-preserved : goal.loop-first-preserved
loop-first-preserved c =
    let s = c.args.theory.now in
    let x = attributes c.args.lhs in
    let y = attributes c.args.rhs in
    let a = c.in-Some.first in
    let left = attributes c.loop-first.left in
    let rest = attributes c.difference-left-in-Some.result in
    let before = c.loop-first.invariant in
    let next = c.in_ok-next.next in
    let u = tree_of c.in-Ok.more.value in
    let lossless = c.in_ok-next.ensures.proof in
    let in_left : left a ≡ true = c.in-Some.ensures.first.member in
    let done = attributes c.difference-done.result in
    let done_is = c.difference-done.ensures.members in
    record {
      left = left_next x y left rest (attributes next.part) a (tree_of c.loop-first.joined.value) (tree_of next.deriv.value) u before.left c.in-Some.ensures.attribute in_left lossless.member c.difference-left-in-Some.ensures.members
          lossless.size c.in-Ok.ensures.size;
      proves = mvd_restated s u x (union done (attributes next.part)) x (difference y rest) refl
          (fun_ext (λ k. grind (arith, same_at done_is k, same_at (right_next y left rest (attributes next.part) before.left.within (lossless.within y c.requires.implied (before.left.within a in_left)) c.difference-left-in-Some.ensures.members) k)))
          (c.in-Ok.ensures.concludes s (mvd_restated s (tree_of c.loop-first.joined.value) x (difference y left) x done refl (sym done_is) before.proves) lossless.proves);
    }
