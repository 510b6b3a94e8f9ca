-- What is left to prove of `add_above`: what it requires of itself, that the invariant of its loop holds at first
-- and stays, and its clauses, by `FindLemmas`.
use Rattle.std.proofs.Common.{◌≡◌, ◌<◌, List, length, sym, subst, arith}
use Rattle.std.proofs.lemmas.Bool.Decides.{nat_tests}
use Rattle.dep_model.specs.Plans.{schemes_of}
use Rattle.candidate_branches.specs.declared.branch.Branch.{Branch}
use Rattle.candidate_branches.specs.Branches.{IsBranch}
use Rattle.candidate_branches.proofs.FindLemmas.{adds_all, adds_first, adds_more, no_elements, one_added}
use Rattle.candidate_branches.proofs.finding.+add_above.Goals as goal

pub returns-then-is_empty-clause-added : goal.returns-then-is_empty-clause-added
returns-then-is_empty-clause-added t c = λ most a es is.
    let none : length c.args.branch.now.held.items ≡ 0 = grind (arith, nat_tests, c.is_empty.ensures, c.if-is_empty.true) in
    one_added c.args.width most a es c.args.branch.now is (no_elements c.args.branch.now.held.items none) c.args.found.now.items c.add_one.new.found.items
    c.in_ok-add_one.ensures.added

pub loop-i-init : goal.loop-i-init
loop-i-init t c = record {
  numbers = λ fit. fit;
  added = λ most a es is. adds_first c.args.width most a es c.in_ok-above.above.items (schemes_of c.args.found.now.items);
}

pub add_above-requires : goal.add_above-requires
add_above-requires t c =
    let branch : Branch = c.index.result.now in
    let low : c.loop-i.i < length c.in_ok-above.above.items = omega (arith, c.loop-i-test.true, c.len-i-end.ensures) in
    let less : branch.left < c.args.branch.now.left = subst (λ (b : Branch). b.left < c.args.branch.now.left) (sym c.index.ensures) (c.in_ok-above.ensures.lower c.loop-i.i branch low) in
    (omega (arith, c.decreases, less), c.requires.width)

pub loop-i-preserved : goal.loop-i-preserved
loop-i-preserved t c = record {
  numbers = λ fit. c.in_ok-add_above.ensures.numbers (c.loop-i.invariant.numbers fit);
  added = λ most a es is.
      let above : List Branch = c.in_ok-above.above.items in
      let branch : Branch = c.index.result.now in
      let low : c.loop-i.i < length above = omega (arith, c.loop-i-test.true, c.len-i-end.ensures) in
      let is_branch : IsBranch c.args.width most a es branch = subst (λ (b : Branch). IsBranch c.args.width most a es b) (sym c.index.ensures)
      ((c.in_ok-above.ensures.above most a es is).each c.loop-i.i branch low) in
      adds_more c.args.width most a es above c.loop-i.i branch (schemes_of c.args.found.now.items) (schemes_of c.loop-i.found.items)
      (schemes_of c.add_above.new.found.items) low c.index.ensures (c.loop-i.invariant.added most a es is)
      (c.in_ok-add_above.ensures.added most a es is_branch);
}

pub returns-clause-added : goal.returns-clause-added
returns-clause-added t c = λ most a es is.
    adds_all c.args.width most a es c.args.branch.now c.in_ok-above.above.items c.loop-i.i (schemes_of c.args.found.now.items)
    (schemes_of c.loop-i.found.items) (omega (arith, c.loop-i-test.false, c.len-i-end.ensures)) (c.in_ok-above.ensures.above most a es is)
    (c.loop-i.invariant.added most a es is)
