-- What is left to prove of `refine_groups`: its clauses `groups` and `count`, by `single_group` and
-- `pair_groups`.
use Rattle.std.proofs.Common.{arith, sym, subst}
use Rattle.attr_sets.specs.Attributes.{union, only}
use Rattle.row_groups.specs.Numberings.{AreGroups}
use Rattle.row_groups.proofs.NumberingLemmas.{single_group, pair_groups}
use Rattle.row_groups.proofs.groups.refine_groups.Goals as goal

pub returns-then-are_zeros-clause-groups : goal.returns-then-are_zeros-clause-groups
returns-then-are_zeros-clause-groups c = λ rows x k g codes.
    subst (AreGroups rows (union x (only k))) (sym c.in_ok-from_slice.ensures.items)
    (single_group rows x k _ _ g (λ i l. c.are_zeros.ensures.zeros c.if-are_zeros.true i (omega (arith, l, g.one_each))) codes)

pub returns-clause-groups : goal.returns-clause-groups
returns-clause-groups c = λ rows x k g codes. pair_groups rows x k _ _ _ g codes (c.in_ok-numbers.ensures.numbered g.in_order)

pub returns-clause-count : goal.returns-clause-count
returns-clause-count c = c.in_ok-numbers.ensures.count
