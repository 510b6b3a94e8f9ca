-- What is left to prove of `first_set`: its clause `first`, by `position_or_len_is`.
use Rattle.std.proofs.Common.{Bool, false, length, sym, arith}
use Rattle.std.proofs.lemmas.List.Sums.{position_or_len_is}
use Rattle.desk_measures.proofs.columns.first_set.Goals as goal

pub returns-then-flags-row-clause-first : goal.returns-then-flags-row-clause-first
returns-then-flags-row-clause-first c =
    let low = c.loop-row-test.true in
    sym (position_or_len_is (λ (flag : Bool). flag) c.args.flags.now c.loop-row.row false (omega (arith, low))
    c.loop-row.invariant.unset (λ within. c.if-flags-row.true))

pub returns-clause-first : goal.returns-clause-first
returns-clause-first c =
    let past = c.loop-row-test.false in
    sym (position_or_len_is (λ (flag : Bool). flag) c.args.flags.now (length c.args.flags.now) false (omega arith)
    (λ k low. c.loop-row.invariant.unset k (omega (arith, low, past))) (λ within. absurd (omega (arith, within))))
