-- What is left to prove of `read_opening`: what it answers, case by case and that a round of its
-- loop keeps the invariant, by `TextLemmas`.
use Rattle.std.proofs.Common.{◌+◌, ◌∙◌, [], sym, ap, refl, arith}
use Rattle.schema_reader.specs.Views.{declarations_of_draft}
use Rattle.schema_grammar.specs.Texts.{finish, read_opening}
use Rattle.lexer.specs.declared.mode.Mode.{Mode}
use Rattle.lexer.specs.Tokens.{lex}
use Rattle.schema_grammar.specs.Rests.{Rest, rest_from}
use Rattle.schema_grammar.proofs.RefusalLemmas.{ok_whole, refuses_whole}
use Rattle.lexer.specs.Lines.{line_texts}
use Rattle.lexer.proofs.LineEnds.{CutsAt-any, cut_last, cut_more}
use Rattle.schema_reader.proofs.TextLemmas.{opening_whole_line, opening_ended, opening_stopped, opening_typed, opening_plain, opening_last}
use Rattle.schema_reader.proofs.text.read_opening.Goals as goal

pub returns-in-Refusal : goal.returns-in-Refusal
returns-in-Refusal c =
    let cut = CutsAt-any _ _ _ c.cut_line.ensures.cut in
    let whole = c.start-start.ensures.whole ∙ ap (λ (m : Mode). rest_from c.lines.number 1 (lex m c.cut_line.result.0.now)) c.numbered.ensures.mode in
    let line = ap (λ (r : Rest). r.line) whole in
    let here = c.lines.invariant.same ∙ opening_whole_line _ _ _ _ _ cut whole
    ∙ opening_stopped _ _ _ _ c.in-Refusal.ensures.exact
    ∙ rw (line, ← cut) refl in
    record { ok = ok_whole declarations_of_draft _ _ _ here c.read_lines.ensures.ok; err = refuses_whole _ _ _ here c.read_lines.ensures.err }

pub returns-then-is_version : goal.returns-then-is_version
returns-then-is_version c =
    let cut = CutsAt-any _ _ _ c.cut_line.ensures.cut in
    let whole = c.start-start.ensures.whole ∙ ap (λ (m : Mode). rest_from c.lines.number 1 (lex m c.cut_line.result.0.now)) c.numbered.ensures.mode in
    let here = c.lines.invariant.same ∙ opening_whole_line _ _ _ _ _ cut whole
    ∙ opening_typed _ _ _ _ _ c.in-Token.ensures.exact.led (sym c.if-is_version.ensures.exact) in
    record { ok = ok_whole declarations_of_draft _ _ _ here c.read_versioned.ensures.ok; err = refuses_whole _ _ _ here c.read_versioned.ensures.err }

pub returns-else-is_version : goal.returns-else-is_version
returns-else-is_version c =
    let cut = CutsAt-any _ _ _ c.cut_line.ensures.cut in
    let whole = c.start-start.ensures.whole ∙ ap (λ (m : Mode). rest_from c.lines.number 1 (lex m c.cut_line.result.0.now)) c.numbered.ensures.mode in
    let line = ap (λ (r : Rest). r.line) whole in
    let here = c.lines.invariant.same ∙ opening_whole_line _ _ _ _ _ cut whole
    ∙ opening_plain _ _ _ _ _ c.in-Token.ensures.exact.led (sym c.if-is_version.ensures.exact)
    ∙ rw (line, ← cut) refl in
    record {
      ok = ok_whole declarations_of_draft _ _ _ here c.read_lines-else-is_version.ensures.ok;
      err = refuses_whole _ _ _ here c.read_lines-else-is_version.ensures.err;
    }

pub returns-in-None : goal.returns-in-None
returns-in-None c =
    let cut = cut_last _ _ _ c.in-None.is c.cut_line.ensures.cut in
    let whole = c.start-start.ensures.whole ∙ ap (λ (m : Mode). rest_from c.lines.number 1 (lex m c.cut_line.result.0.now)) c.numbered.ensures.mode in
    let line = ap (λ (r : Rest). r.line) whole in
    let here = c.lines.invariant.same ∙ opening_whole_line _ _ _ _ _ cut.lines whole
    ∙ opening_ended _ _ _ c.in-End.ensures.exact
    ∙ ap (λ n. read_opening (n + 1) []) line ∙ opening_last c.lines.number
    ∙ ap (finish c.lines.number) (sym c.new.ensures.empty) in
    record { ok = ok_whole declarations_of_draft _ _ _ here c.finish.ensures.ok; err = refuses_whole _ _ _ here c.finish.ensures.err }

pub lines-preserved : goal.lines-preserved
lines-preserved c =
    let cut = cut_more _ _ _ _ c.in-Some.is c.cut_line.ensures.cut in
    let whole = c.start-start.ensures.whole ∙ ap (λ (m : Mode). rest_from c.lines.number 1 (lex m c.cut_line.result.0.now)) c.numbered.ensures.mode in
    let line = ap (λ (r : Rest). r.line) whole in
    record {
      same = c.lines.invariant.same ∙ opening_whole_line _ _ _ _ _ cut.lines whole
          ∙ opening_ended _ _ _ c.in-End.ensures.exact
          ∙ ap (λ n. read_opening (n + 1) (line_texts c.in-Some.lines.now)) line;
      room = omega (arith, c.lines.invariant.room, cut.shorter);
    }
