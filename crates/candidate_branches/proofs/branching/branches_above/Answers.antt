-- What is left to prove of `branches_above`: its clause `above`, and that the invariant of its loop stays, by
-- `BranchLemmas`.
use Rattle.std.proofs.Common.{◌≡◌, ◌+◌, ◌<◌, ℕ, true, List, Vec, Global, get_or, refl, sym, subst, ◌∙◌, arith}
use Rattle.std.specs.Prelude.{All, Contains}
use Rattle.std.proofs.lemmas.List.Elements.{Contains-get_or}
use Rattle.attr_sets.specs.Attributes.{Attributes, difference}
use Rattle.attr_sets.specs.Sets.{attributes}
use Rattle.attr_sets.specs.declared.set.AttrSet.{AttrSet}
use Rattle.attr_sets.proofs.AttributesLemmas.{same_at}
use Rattle.candidate_branches.specs.declared.branch.Branch.{Branch}
use Rattle.candidate_branches.specs.Branches.{AreAbove}
use Rattle.candidate_branches.proofs.BranchLemmas.{AreAboveUpTo, AreFree, above_all, above_first, above_past, above_tried, free_first, free_more, free_same, none_left, outside_to}
use Rattle.candidate_branches.proofs.branching.branches_above.Goals as goal
use Rattle.candidate_branches.proofs.branching.branches_above.Goals.{After-difference-columns, then-contains+in_ok-add_branch, else-contains}

pub returns-then-branch-eq0-clause-above : goal.returns-then-branch-eq0-clause-above
returns-then-branch-eq0-clause-above c = λ most a es is.
    let none : AttrSet = record { 0 = 0 } in
    let held : List AttrSet = c.args.branch.now.held.items in
    let by : AttrSet = get_or held 0 none in
    subst (λ (bs : List Branch). AreAbove c.args.width most a es c.args.branch.now bs) (sym c.new-above.ensures.items)
    (none_left c.args.width most a es c.args.branch.now is by (Contains-get_or held 0 none c.requires.held)
    (difference (attributes c.args.branch.now.free) (attributes by)) refl c.if-branch-eq0.true)

-- the evidence that is taken is listed
by_in : (c : After-difference-columns) → Contains c.args.branch.now.held.items c.narrowest-by.result
by_in c = subst (λ (sets : List AttrSet). Contains sets c.narrowest-by.result) c.deref.ensures.value c.narrowest-by.ensures.listed

pub loop-column-init : goal.loop-column-init
loop-column-init c = record {
  lower = λ k d l. subst (λ (bs : List Branch). All (λ (b : Branch). b.left < c.args.branch.now.left) bs) (sym c.new-above.ensures.items) (λ j e low. absurd (omega (arith, low))) k d l;
  are_free = free_first (attributes c.args.branch.now.free) (attributes c.difference-columns.result) (attributes c.difference-free.result) c.difference-free.ensures.members;
  above = λ most a es is. subst (λ (bs : List Branch). AreAboveUpTo c.args.width most a es c.args.branch.now (attributes c.difference-columns.result) 0 bs)
      (sym c.new-above.ensures.items) (above_first c.args.width most a es c.args.branch.now (attributes c.difference-columns.result));
}

pub loop-column-preserved : goal.loop-column-preserved
loop-column-preserved c =
    let at = (goal.at.loop-column-preserved c).After-difference-columns in
    let n : ℕ = c.args.width in
    let branch : Branch = c.args.branch.now in
    let whole : Attributes = attributes branch.free in
    let columns : Attributes = attributes c.difference-columns.result in
    let by : AttrSet = c.narrowest-by.result in
    let k : ℕ = c.loop-column.column in
    let above : List Branch = c.loop-column.above.items in
    elim c.if-contains.branch [
      | then-contains+in_ok-add_branch w ↦
          let col : columns k ≡ true = sym c.contains.ensures.member ∙ w.if-contains.true in
          let is_free : whole k ≡ true = (outside_to whole (attributes by) k (sym (same_at c.difference-columns.ensures.members k) ∙ col)).0 in
          record {
            lower = subst (λ (v : Vec Branch Global). All (λ (b : Branch). b.left < branch.left) v.items) (sym w.above-is)
                (w.in_ok-add_branch.ensures.lower c.loop-column.invariant.lower);
            are_free = subst (λ (s : AttrSet). AreFree whole columns (attributes s) (k + 1)) (sym w.free-is)
                (free_more whole columns (attributes c.loop-column.free) (attributes w.with-free.result) k is_free w.with-free.ensures.members
                c.loop-column.invariant.are_free);
            above = λ most a es is. subst (λ (v : Vec Branch Global). AreAboveUpTo n most a es branch columns (k + 1) v.items) (sym w.above-is)
                (above_tried n most a es branch is by (by_in at) columns c.difference-columns.ensures.members k (attributes c.loop-column.free) above
                w.add_branch.new.above.items col c.loop-column.invariant.are_free (c.loop-column.invariant.above most a es is) w.in_ok-add_branch.ensures.added);
          }
      | else-contains w ↦
          let out = sym c.contains.ensures.member ∙ w.if-contains.false in
          record {
            lower = subst (λ (v : Vec Branch Global). All (λ (b : Branch). b.left < branch.left) v.items) (sym w.above-is) c.loop-column.invariant.lower;
            are_free = subst (λ (s : AttrSet). AreFree whole columns (attributes s) (k + 1)) (sym w.free-is)
                (free_same whole columns (attributes c.loop-column.free) k out c.loop-column.invariant.are_free);
            above = λ most a es is. subst (λ (v : Vec Branch Global). AreAboveUpTo n most a es branch columns (k + 1) v.items) (sym w.above-is)
                (above_past n most a es branch is columns k above (c.loop-column.invariant.above most a es is) out);
          }
    ]

pub returns-clause-above : goal.returns-clause-above
returns-clause-above c = λ most a es is.
    above_all c.args.width most a es c.args.branch.now is c.narrowest-by.result (by_in (goal.at.returns-clause-above c).After-difference-columns)
    (attributes c.difference-columns.result) c.difference-columns.ensures.members c.loop-column.column c.loop-column.above.items c.loop-column-test.false
    (c.loop-column.invariant.above most a es is)
