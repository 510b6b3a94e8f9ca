-- What is left to prove of `AttrSet::next_subset`: its clauses `none`, `next` and `number`, by
-- `AttributesLemmas` and `OrderLemmas`.
use Rattle.std.proofs.Common.{refl, arith}
use mathlib.Core.Path.{fun_ext}
use Rattle.attr_sets.specs.Sets.{attributes}
use Rattle.attr_sets.proofs.AttributesLemmas.{same_from_within, same_at}
use Rattle.attr_sets.proofs.OrderLemmas.{next_subset-is, lt_from_before}
use Rattle.attr_sets.proofs.set.AttrSet.next_subset.Goals as goal

pub returns-in-None-clause-none : goal.returns-in-None-clause-none
returns-in-None-clause-none c = (
  λ _. same_from_within (attributes c.args.self) (attributes c.args.whole) c.requires.within (λ k m. grind (arith, m, c.in-None.ensures.none.0 refl k, same_at c.difference.ensures.members k)),
  λ _. refl,
)

pub returns-in-Some-clause-next : goal.returns-in-Some-clause-next
returns-in-Some-clause-next c =
    let rest = c.difference.ensures.members in
    next_subset-is (attributes c.args.whole) (attributes c.args.self) (attributes c.with.result) c.in-Some.i c.requires.within
    (rw (← rest) c.in-Some.ensures.first)
    (fun_ext (λ k. grind (arith, same_at c.with.ensures.members k, same_at c.difference-in-Some.ensures.members k, same_at c.full.ensures.members k)))

pub returns-in-Some-clause-number : goal.returns-in-Some-clause-number
returns-in-Some-clause-number c =
    let rest = c.difference.ensures.members in
    let next = next_subset-is (attributes c.args.whole) (attributes c.args.self) (attributes c.with.result) c.in-Some.i c.requires.within
    (rw (← rest) c.in-Some.ensures.first)
    (fun_ext (λ k. grind (arith, same_at c.with.ensures.members k, same_at c.difference-in-Some.ensures.members k, same_at c.full.ensures.members k))) in
    lt_from_before c.args.self c.with.result (omega arith) (omega arith) next.after
