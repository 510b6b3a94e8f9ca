-- `after`: what lies above attribute i is what is left without the attributes below i + 1.
use Rattle.std.proofs.Common.{arith}
use Rattle.std.proofs.lemmas.Option.{IfSome_then}
use Rattle.std.proofs.lemmas.Bool.Decides.{nat_tests}
use Rattle.attr_sets.proofs.AttributesLemmas.{same_at}
use Rattle.attr_sets.proofs.set.AttrSet.after.Goals as goal

pub returns-clause-none : goal.returns-clause-none
returns-clause-none c = (
  λ none k above. grind (arith, nat_tests, c.first.ensures.none.0 none k, same_at c.difference.ensures.members k, same_at c.full.ensures.members k),
  λ all. c.first.ensures.none.1 (λ k. grind (arith, nat_tests, same_at c.difference.ensures.members k, same_at c.full.ensures.members k, all k)),
)

pub returns-clause-first : goal.returns-clause-first
returns-clause-first c = IfSome_then c.first.result c.first.ensures.first (λ j least. record {
  from_on = grind (arith, nat_tests, least.member, same_at c.difference.ensures.members j, same_at c.full.ensures.members j);
  member = grind (arith, least.member, same_at c.difference.ensures.members j);
  least = λ k from lt. grind (arith, nat_tests, least.least k (omega arith) lt, same_at c.difference.ensures.members k, same_at c.full.ensures.members k);
})
