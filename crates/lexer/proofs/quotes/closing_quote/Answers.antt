-- What is left to prove of `closing_quote`: its clauses and that a round of its loop keeps the invariant, by
-- `Quoting` and `Steps`.
use Rattle.std.proofs.Common.{sym}
use Rattle.lexer.proofs.Steps.{is_some, is_none}
use Rattle.lexer.proofs.Quoting.{closing_below, pass_doubled, pass_other, passed_all, passed_to}
use Rattle.lexer.proofs.quotes.closing_quote.Goals.{then-starts_with, else-starts_with+else-starts_with-2}
use Rattle.lexer.proofs.quotes.closing_quote.Goals as goal

pub returns-then-starts_with-2 : goal.returns-then-starts_with-2
returns-then-starts_with-2 c =
    let end = passed_to _ _ _ c.loop-rest.invariant (sym c.if-starts_with-2.ensures.value) (sym c.if-starts_with.ensures.value) in
    record { end = end; within = closing_below _ _ (sym end) }

pub loop-rest-preserved : goal.loop-rest-preserved
loop-rest-preserved c = elim c.if-starts_with.branch [
  | then-starts_with w ↦ pass_doubled _ _ _ _ _ c.loop-rest.invariant (sym w.if-starts_with.ensures.value) w.step-is c.split_at.ensures.back
  | else-starts_with+else-starts_with-2 w ↦ pass_other _ _ _ _ _ c.loop-rest.invariant (is_some _ c.loop-rest-test.ensures)
      (sym w.if-starts_with-2.ensures.value) w.step-is c.split_at.ensures.back
]

pub returns : goal.returns
returns c = record { end = passed_all _ _ _ c.loop-rest.invariant (is_none _ c.loop-rest-test.ensures); within = tt }
