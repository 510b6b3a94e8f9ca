-- What is left to prove of `largest_without`: that the invariant of its loop holds at first and stays, and its
-- clause, by `LargestLemmas`.
use Rattle.std.proofs.Common.{◌+◌, ◌<◌, ℕ, List, Vec, Global, length, get_or, sym, subst}
use Rattle.attr_sets.specs.Sets.{attributes}
use Rattle.attr_sets.specs.declared.set.AttrSet.{AttrSet}
use Rattle.dep_model.specs.Plans.{schemes_of}
use Rattle.dep_model.proofs.ListLemmas.{same_default}
use Rattle.candidate_branches.specs.Largest.{IsHeldBy}
use Rattle.candidate_branches.proofs.LargestLemmas.{AreLargestUpTo, largest_all, largest_first, largest_more, largest_same}
use Rattle.candidate_branches.proofs.evidence.largest_without.Goals as goal
use Rattle.candidate_branches.proofs.evidence.largest_without.Goals.{then-tells_more+in_ok-push, else-tells_more}

pub loop-one-init : goal.loop-one-init
loop-one-init c = largest_first c.args.right c.args.evidence.now c.new-largest.result.items c.new-largest.ensures.items

pub loop-one-preserved : goal.loop-one-preserved
loop-one-preserved c =
    let a : ℕ = c.args.right in
    let evidence : List AttrSet = c.args.evidence.now in
    let i : ℕ = c.loop-one.one-index in
    let low : i < length evidence = c.loop-one-test.true in
    let none : AttrSet = record { 0 = 0 } in
    let one : AttrSet = get_or evidence i none in
    let largest : List AttrSet = c.loop-one.largest.items in
    elim c.if-tells_more.branch [
      | then-tells_more+in_ok-push w ↦ subst (λ (v : Vec AttrSet Global). AreLargestUpTo a evidence (i + 1) v.items) (sym w.largest-is)
          (largest_more a evidence i one low (λ d. same_default evidence i d none low) largest c.loop-one.invariant w.push.new.self.items w.in_ok-push.ensures.items
          (c.tells_more.ensures.lacks w.if-tells_more.true))
      | else-tells_more w ↦ subst (λ (v : Vec AttrSet Global). AreLargestUpTo a evidence (i + 1) v.items) (sym w.largest-is)
          (largest_same a evidence i one low (λ d. same_default evidence i d none low) largest c.loop-one.invariant
          (λ lacks. subst (λ (sets : List AttrSet). IsHeldBy (schemes_of sets) (attributes one)) c.deref.ensures.value (c.tells_more.ensures.held w.if-tells_more.false lacks)))
    ]

pub returns : goal.returns
returns c = record {
  largest = largest_all c.args.right c.args.evidence.now c.loop-one.largest.items c.loop-one.one-index c.loop-one-test.false c.loop-one.invariant;
}
