-- What is left to prove of `type_of_column`: its clauses and that a round of its loop keeps the
-- invariant, by `FirstLemmas`.
use Rattle.std.proofs.Common.{inr, refl, sym, arith}
use Rattle.std.proofs.lemmas.Bool.{true≢false}
use Rattle.column_types.proofs.FirstLemmas.{all_texts, first_found, have_same, none_more, type_valid}
use Rattle.column_types.proofs.typing.type_of_column.Goals as goal

pub returns-then-all_have : goal.returns-then-all_have
returns-then-all_have c =
    let rows = c.args.rows.now in
    let k = c.args.position in
    let i = c.loop-i.i in
    let within = c.loop-i-test.true in
    let all = have_same rows k i c.index-i.result c.index-i-then-all_have.result (omega (arith, within)) (c.if-all_have.ensures.have.0 refl) in
    let first = first_found rows k i c.index-i-then-all_have.result (omega (arith, within)) all c.loop-i.invariant.none in
    record {
      column = inr ((λ empty. absurd (true≢false (sym (c.if-all_empty.ensures.empty.1 empty)))), first);
      valid = type_valid rows k _ first;
    }

pub loop-i-preserved : goal.loop-i-preserved
loop-i-preserved c = record {
  none = none_more c.args.rows.now c.args.position c.loop-i.i c.index-i.result
      (λ all. true≢false (sym (c.if-all_have.ensures.have.1 all))) c.loop-i.invariant.none;
}

pub returns : goal.returns
returns c = absurd (all_texts c.args.rows.now c.args.position c.loop-i.i (omega (arith, c.loop-i-test.false)) c.loop-i.invariant.none)
