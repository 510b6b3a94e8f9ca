-- What is left to prove of `Groups::refined`: its clauses `groups` and `firsts`.
use Rattle.std.proofs.Common.{List, ℕ, sym, subst, ◌∙◌}
use Rattle.attr_sets.specs.Attributes.{Attributes, union}
use Rattle.attr_sets.specs.Sets.{attributes}
use Rattle.row_groups.specs.Interning.{IsInterned, groups_of}
use Rattle.row_groups.specs.Numberings.{AreGroups, AreFirsts, AreInOrder}
use Rattle.row_groups.proofs.groups.Groups.refined.Goals as goal
use Rattle.row_groups.proofs.groups.Groups.refined.Goals.{In_ok-numbers}
use Rattle.dep_model.specs.Tuples.{Relation}

-- the rows by what they have on both sets
grouped : (c : In_ok-numbers) (n : ℕ) (rows : Relation) (x : Attributes) → IsInterned n rows c.args.codes.now → AreGroups rows x (groups_of c.args.self.now)
    → AreGroups rows (union x (attributes c.args.set)) c.in_ok-numbers.numbers.items
grouped c n rows x kept g =
    c.in_ok-numbers.ensures.groups n rows x kept (subst (AreGroups rows x) (sym (c.in_ok-same.ensures.items ∙ c.deref.ensures.value)) g)

pub returns-clause-groups : goal.returns-clause-groups
returns-clause-groups c = grouped (goal.at.returns-clause-groups c).In_ok-numbers

pub returns-clause-firsts : goal.returns-clause-firsts
returns-clause-firsts c = λ n rows x kept g.
    let at = (goal.at.returns-clause-firsts c).In_ok-numbers in
    subst (λ (l : List ℕ). AreFirsts l c.in_ok-firsts.firsts.items) c.deref-2.ensures.value
    (c.in_ok-firsts.ensures.firsts (subst AreInOrder (sym c.deref-2.ensures.value) (grouped at n rows x kept g).in_order))
