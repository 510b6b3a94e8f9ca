-- What is left to prove of `join_fd`: what `show_closed` requires, that the invariant of its loop
-- holds at first and stays, and that its loop ends, by `JoiningLemmas` and `ShowingLemmas`.
use Rattle.std.proofs.Common.{◌≡◌, ◌+◌, ◌*◌, true, refl, arith, sym}
use mathlib.Core.Path.{fun_ext}
use Rattle.std.proofs.lemmas.Bool.Decides.{nat_tests}
use Rattle.attr_sets.specs.Attributes.{only, union, difference}
use Rattle.attr_sets.specs.Sets.{attributes}
use Rattle.attr_sets.specs.declared.set.TheConstants.{MOST_ATTRIBUTES}
use Rattle.dep_model.specs.Theories.{width_of, theory_of}
use Rattle.derivation.specs.Derivs.{tree_of}
use Rattle.attr_sets.proofs.AttributesLemmas.{same_at}
use Rattle.derivation.proofs.ProvesLemmas.{fd_restated}
use Rattle.fd_closure.proofs.ClosureLemmas.{fd_each-to}
use Rattle.basis_proofs.proofs.ShowingLemmas.{size_grows}
use Rattle.basis_proofs.proofs.JoiningLemmas.{left_first, right_first, right_next, left_fewer, left_next}
use Rattle.basis_proofs.proofs.joining.join_fd.Goals as goal

pub loop-first-init : goal.loop-first-init
loop-first-init c =
    let x = attributes c.args.lhs in
    let y = attributes c.args.rhs in
    let left = attributes c.difference-left.result in
    let t = tree_of c.in_ok-joined.joined.value in
    record {
      left = left_first x y left t c.difference-left.ensures.members c.in_ok-joined.ensures.size;
      proves = fd_restated c.args.theory.now t x (attributes c.intersection.result) x (difference y left) refl
          (right_first x y left (attributes c.intersection.result) c.difference-left.ensures.members c.intersection.ensures.members) c.in_ok-joined.ensures.proves;
    }

pub show_closed-requires-clause-implied : goal.show_closed-requires-clause-implied
show_closed-requires-clause-implied c =
    fd_each-to (width_of c.args.theory.now) (theory_of c.args.theory.now) (attributes c.args.lhs) (attributes c.args.rhs) c.requires.implied c.in-Some.first
    (c.loop-first.invariant.left.within c.in-Some.first c.in-Some.ensures.first.member)

pub loop-first-smaller : goal.loop-first-smaller
loop-first-smaller c =
    left_fewer (attributes c.loop-first.left) (attributes c.without-left.result) (only c.in-Some.first) c.in-Some.first c.in-Some.ensures.attribute c.in-Some.ensures.first.member (grind (arith, nat_tests)) c.without-left.ensures.members

pub loop-first-preserved : goal.loop-first-preserved
loop-first-preserved c =
    let s = c.args.theory.now in
    let x = attributes c.args.lhs in
    let y = attributes c.args.rhs in
    let a = c.in-Some.first in
    let left = attributes c.loop-first.left in
    let rest = attributes c.without-left.result in
    let before = c.loop-first.invariant in
    let g = tree_of c.in_ok-next.next.value in
    let u = tree_of c.in-Ok.more.value in
    let lossless = c.in_ok-next.ensures.proof in
    let in_left : left a ≡ true = c.in-Some.ensures.first.member in
    let alone = attributes c.single-only.result in
    let alone_is = c.single-only.ensures.members in
    record {
      left = left_next x y left rest (only a) a (tree_of c.loop-first.joined.value) g u before.left c.in-Some.ensures.attribute in_left (grind (arith, nat_tests)) c.without-left.ensures.members
          (size_grows g (8 * MOST_ATTRIBUTES + 6) (5 * MOST_ATTRIBUTES + 6) (8 * MOST_ATTRIBUTES + 8) (5 * MOST_ATTRIBUTES + 8) (omega arith) (omega arith) lossless.size) c.in-Ok.ensures.size;
      proves = fd_restated s u x (union (difference y left) alone) x (difference y rest) refl
          (fun_ext (λ k. grind (arith, same_at alone_is k, same_at (right_next y left rest (only a) before.left.within (λ j m. grind (arith, nat_tests, m, before.left.within a in_left)) c.without-left.ensures.members) k)))
          (c.in-Ok.ensures.concludes s (difference y left) before.proves (fd_restated s g x (only a) x alone refl (sym alone_is) lossless.proves));
    }
