-- What is left to prove of `read_lines`: its clauses `err` and `ok` and that the invariant of its
-- loop holds at first and stays, by `ReadingLemmas`.
use Rattle.std.proofs.Common.{refl, ◌∙◌, arith}
use Rattle.lexer.proofs.LineEnds.{CutsAt-any, cut_last, cut_more}
use Rattle.dep_model.proofs.FailureLemmas.{refuses_also}
use Rattle.plan_reader.proofs.ReadingLemmas.{line_refused, last_read, reads_more}
use Rattle.plan_reader.proofs.reading.read_lines.Goals as goal

pub lines-init : goal.lines-init
lines-init c = record { same = rw c.new-draft.ensures.nothing refl; room = omega (arith, c.requires) }

pub returns-in-Err-clause-err : goal.returns-in-Err-clause-err
returns-in-Err-clause-err c =
    refuses_also _ _ c.in-Err.failure
    (λ refusal refused. c.lines.invariant.same ∙ line_refused _ _ _ _ _ _ _ _ (CutsAt-any _ _ _ c.cut_line.ensures.cut) refused) c.in-Err.ensures.err

pub returns-in-None-clause-ok : goal.returns-in-None-clause-ok
returns-in-None-clause-ok c = c.lines.invariant.same ∙ last_read _ _ _ _ _ _ _ (cut_last _ _ _ c.in-None.is c.cut_line.ensures.cut).lines c.in-Ok.ensures.ok

pub lines-preserved : goal.lines-preserved
lines-preserved c = reads_more _ _ _ _ _ _ _ _ _ c.lines.invariant (cut_more _ _ _ _ c.in-Some.is c.cut_line.ensures.cut) c.in-Ok.ensures.ok
