-- What is left to prove of `rows_agree`: that its loop ends.
use Rattle.std.proofs.Common.{arith}
use Rattle.std.proofs.lemmas.Bool.Decides.{nat_tests}
use Rattle.attr_sets.specs.Sets.{attributes}
use Rattle.attr_sets.specs.declared.set.TheConstants.{MOST_ATTRIBUTES}
use Rattle.attr_sets.proofs.AttributesLemmas.{count_below-lt, same_at}
use Rattle.legality.proofs.functional.rows_agree.Goals as goal

pub loop-attribute-smaller : goal.loop-attribute-smaller
loop-attribute-smaller c =
    count_below-lt MOST_ATTRIBUTES (attributes c.without-left.result) (attributes c.loop-attribute.left) c.in-Some.attribute
    (λ k m. grind (arith, same_at c.without-left.ensures.members k, m)) c.in-Some.ensures.attribute
    (grind (arith, nat_tests, same_at c.without-left.ensures.members c.in-Some.attribute)) c.in-Some.ensures.first.member
