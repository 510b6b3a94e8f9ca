-- What is left to prove of `read_one`: its clause `err`, where the line is refused as it is added.
use Rattle.std.proofs.Common.{rules}
use Rattle.derivation_grammar.specs.Texts.{read_one}
use Rattle.proof_grammar.specs.Lines.{line_by}
use Rattle.proof_grammar.specs.Texts.{line_kind}
use Rattle.schema_grammar.specs.Rests.{take}
use Rattle.derivation_text.proofs.text.read_one.Goals as goal
use Rattle.derivation_text.proofs.text.read_one.Goals.{else-fresh-via-then-fresh+then-is_yes+else-is_blank, else-fresh-via-then-fresh+else-is_yes, else-fresh-via-else-fresh}

pub returns-in-Err-add_line-clause-err : goal.returns-in-Err-add_line-clause-err
unfolding read_one line_kind line_by take
returns-in-Err-add_line-clause-err c = elim c.else-fresh.branch [
  | else-fresh-via-then-fresh+then-is_yes+else-is_blank w ↦ search (rules, w.if-is_blank.false, w.is_blank.ensures, c.in-Token.ensures.exact, c.start-start.ensures.whole, c.numbered.ensures.mode, c.naming.ensures.naming, c.in-Ok.ensures.ok, c.in-Err-add_line.ensures.err)
  | else-fresh-via-then-fresh+else-is_yes w ↦ search (rules, c.in-Token.ensures.exact, c.start-start.ensures.whole, c.numbered.ensures.mode, c.naming.ensures.naming, c.in-Ok.ensures.ok, c.in-Err-add_line.ensures.err)
  | else-fresh-via-else-fresh w ↦ search (rules, c.in-Token.ensures.exact, c.start-start.ensures.whole, c.numbered.ensures.mode, c.naming.ensures.naming, c.in-Ok.ensures.ok, c.in-Err-add_line.ensures.err)
]
