-- What is left to prove of `unless_transit`: that what is made is small, and long where it is not made.
use Rattle.std.proofs.Common.{sym, ap, subst, arith}
use Rattle.attr_sets.specs.Sets.{attributes}
use Rattle.derivation.specs.Trees.{Tree, nodes}
use Rattle.basis_proofs.specs.CutProofs.{HasSize}
use Rattle.short_proofs.proofs.PairLemmas.{difference_small, difference_long}
use Rattle.short_proofs.proofs.differences.unless_transit.Goals as goal

pub returns-then-is_no_longer-clause-short : goal.returns-then-is_no_longer-clause-short
returns-then-is_no_longer-clause-short c = λ u is proves.
    let h = c.args.halves in
    let most = c.is_no_longer.ensures.most c.if-is_no_longer.true in
    let size = c.difference_size.ensures.size in
    let least = difference_long (attributes h.half.lhs) (attributes h.half.rhs) (attributes h.half.middle) h.half.first.number h.half.first.replicated h.half.first.complemented
    h.second.number h.second.replicated h.second.complemented c.args.lifted c.args.widened c.args.turned c.args.again in
    let same = ap nodes is in
    omega (arith, most, size, least, same)

pub unless_other-requires-clause-small : goal.unless_other-requires-clause-small
unless_other-requires-clause-small c =
    let h = c.args.halves in
    subst (λ (t : Tree). HasSize t 16 16) (sym c.in_ok-other.ensures.tree)
    (difference_small (attributes h.half.lhs) (attributes h.half.rhs) (attributes h.half.middle) h.half.first.number h.half.first.replicated h.half.first.complemented
    h.second.number h.second.replicated h.second.complemented c.args.lifted c.args.widened c.args.turned c.args.again)
