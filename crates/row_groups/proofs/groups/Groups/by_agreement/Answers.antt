-- What is left to prove of `Groups::by_agreement`: its clauses `groups` and `firsts`, by `NumberingLemmas`.
use Rattle.std.proofs.Common.{List, ℕ, sym, subst, ◌∙◌}
use Rattle.attr_sets.specs.Attributes.{none, union}
use Rattle.attr_sets.specs.Sets.{attributes}
use Rattle.row_groups.specs.Interning.{IsInterned}
use Rattle.row_groups.specs.Numberings.{AreGroups, AreFirsts, AreInOrder}
use Rattle.row_groups.proofs.NumberingLemmas.{same_groups, union-none, zero_groups}
use Rattle.row_groups.proofs.groups.Groups.by_agreement.Goals as goal
use Rattle.row_groups.proofs.groups.Groups.by_agreement.Goals.{In_ok-numbers}
use Rattle.dep_model.specs.Tuples.{Relation}

-- the rows by what they have on the set
grouped : (c : In_ok-numbers) (n : ℕ) (rows : Relation) → IsInterned n rows c.args.codes.now → AreGroups rows (attributes c.args.set) c.in_ok-numbers.numbers.items
grouped c n rows kept =
    same_groups rows (union none (attributes c.args.set)) (attributes c.args.set) _ (union-none (attributes c.args.set))
    (c.in_ok-numbers.ensures.groups n rows none kept
    (subst (AreGroups rows none) (sym c.in_ok-all.ensures.zeros) (zero_groups rows _ (c.count.ensures.count ∙ kept.count))))

pub returns-clause-groups : goal.returns-clause-groups
returns-clause-groups c = grouped (goal.at.returns-clause-groups c).In_ok-numbers

pub returns-clause-firsts : goal.returns-clause-firsts
returns-clause-firsts c = λ n rows kept.
    let at = (goal.at.returns-clause-firsts c).In_ok-numbers in
    subst (λ (l : List ℕ). AreFirsts l c.in_ok-firsts.firsts.items) c.deref.ensures.value
    (c.in_ok-firsts.ensures.firsts (subst AreInOrder (sym c.deref.ensures.value) (grouped at n rows kept).in_order))
