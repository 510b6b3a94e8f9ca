-- What is left to prove of `read_one`: its clause `err`, where the line is refused as it is entered.
use Rattle.std.proofs.Common.{rules}
use Rattle.proof_grammar.specs.Lines.{line_by}
use Rattle.proof_grammar.specs.Texts.{read_one, line_kind}
use Rattle.schema_grammar.specs.Rests.{take}
use Rattle.proof_text.proofs.text.read_one.Goals as goal
use Rattle.proof_text.proofs.text.read_one.Goals.{else-fresh-via-then-fresh+then-is_yes+else-is_blank, else-fresh-via-then-fresh+else-is_yes, else-fresh-via-else-fresh}

pub returns-in_err-enter-in-Ok-clause-err : goal.returns-in_err-enter-in-Ok-clause-err
unfolding read_one line_kind line_by take
returns-in_err-enter-in-Ok-clause-err c = elim c.else-fresh.branch [
  | else-fresh-via-then-fresh+then-is_yes+else-is_blank w ↦ search (rules, w.if-is_blank.false, w.is_blank.ensures, c.in-Token.ensures.exact, c.start-start.ensures.whole, c.numbered.ensures.mode, c.naming.ensures.naming, c.in-Ok.ensures.ok, c.in_err-enter-in-Ok.ensures.err)
  | else-fresh-via-then-fresh+else-is_yes w ↦ search (rules, c.in-Token.ensures.exact, c.start-start.ensures.whole, c.numbered.ensures.mode, c.naming.ensures.naming, c.in-Ok.ensures.ok, c.in_err-enter-in-Ok.ensures.err)
  | else-fresh-via-else-fresh w ↦ search (rules, c.in-Token.ensures.exact, c.start-start.ensures.whole, c.numbered.ensures.mode, c.naming.ensures.naming, c.in-Ok.ensures.ok, c.in_err-enter-in-Ok.ensures.err)
]
