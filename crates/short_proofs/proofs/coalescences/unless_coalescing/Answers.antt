-- What is left to prove of `unless_coalescing`: that what is made is small, and long where it is not made.
use Rattle.std.proofs.Common.{sym, ap, subst, arith}
use Rattle.attr_sets.specs.Sets.{attributes}
use Rattle.derivation.specs.Trees.{Tree, nodes, given}
use Rattle.basis_proofs.specs.CutProofs.{HasSize}
use Rattle.short_proofs.proofs.PairLemmas.{coalescence_small, coalescence_long}
use Rattle.short_proofs.proofs.coalescences.unless_coalescing.Goals as goal

pub returns-then-is_no_longer-clause-short : goal.returns-then-is_no_longer-clause-short
returns-then-is_no_longer-clause-short c = λ u is proves.
    let m = c.args.merged in
    let most = c.is_no_longer.ensures.most c.if-is_no_longer.true in
    let size = c.coalescence_size.ensures.size in
    let least = coalescence_long (attributes m.lhs) (attributes m.rhs) (attributes m.right) m.first.number m.first.replicated m.first.complemented
    (given m.number) c.args.lifted c.args.cut c.args.again in
    let same = ap nodes is in
    omega (arith, most, size, least, same)

pub unless_other-requires-clause-small : goal.unless_other-requires-clause-small
unless_other-requires-clause-small c =
    let m = c.args.merged in
    subst (λ (t : Tree). HasSize t 16 16) (sym c.in_ok-other.ensures.tree)
    (coalescence_small (attributes m.lhs) (attributes m.rhs) (attributes m.right) m.first.number m.first.replicated m.first.complemented
    (given m.number) c.args.lifted c.args.cut c.args.again)
