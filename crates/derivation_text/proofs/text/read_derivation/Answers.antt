-- What is left to prove of `read_derivation`: its clauses, what `read_one` requires, that the invariant
-- of its loop holds at first and stays, that its loop ends, and that its sums fit.
use Rattle.std.proofs.Common.{List, ap, arith, length, refl, sym, true, ◌+◌, ◌-◌, ◌∙◌, ◌≡◌}
use Rattle.lexer.specs.Lines.{line_texts, without_mark}
use Rattle.lexer.proofs.LineEnds.{CutsAt-any, cut_last, cut_more}
use Rattle.dep_model.proofs.FailureLemmas.{refused_is}
use Rattle.proof_text.proofs.TextLemmas.{unmarked_within, line_within}
use Rattle.derivation_grammar.specs.Texts.{read_lines, read_derivation}
use Rattle.derivation_grammar.proofs.TextLaws.{reading_law, refuses_there}
use Rattle.derivation_text.specs.declared.line.DerivationLine.{DerivationLine}
use Rattle.derivation_text.specs.Views.{derivation_lines_of}
use Rattle.derivation_text.proofs.text.read_derivation.Goals as goal

pub lines-init : goal.lines-init
unfolding read_derivation
lines-init c = record {
  same = ap (λ (items : List DerivationLine). read_lines c.args.schema.now true 1 (derivation_lines_of items) (line_texts (without_mark c.args.text.now))) (sym c.new-before.ensures.items)
      ∙ ap (λ text. read_lines c.args.schema.now true 1 (derivation_lines_of c.new-before.result.items) (line_texts text)) (sym c.without_mark-rest.ensures.text);
  room = omega (arith, unmarked_within c.args.text.now, ap length c.without_mark-rest.ensures.text);
}

pub read_one-requires : goal.read_one-requires
read_one-requires c = record {
  fits_u32 = omega (arith, c.lines.invariant.room, line_within _ _ _ c.cut_line.ensures.cut);
}

pub returns-in-Err-Refused-clause-err : goal.returns-in-Err-Refused-clause-err
unfolding read_lines
returns-in-Err-Refused-clause-err c =
    let found = refused_is _ _ _ c.in-Err-Refused.field-0-is c.in-Err-Refused.ensures.err in
    rw c.in-Err-Refused.field-0-is
    (refuses_there c.args.schema.now c.args.text.now (record { line = c.lines.number; kind = c.in-Err-Refused.kind })
    (rw (c.lines.invariant.same, CutsAt-any _ _ _ c.cut_line.ensures.cut, found) refl))

pub returns-in-Err-Refused-clause-within : goal.returns-in-Err-Refused-clause-within
returns-in-Err-Refused-clause-within c = λ u.
    rw c.in-Err-Refused.field-0-is (refused_is _ _ _ c.in-Err-Refused.field-0-is (c.in-Err-Refused.ensures.within u))

pub returns-in-Ok-finish-clause-ok : goal.returns-in-Ok-finish-clause-ok
unfolding read_lines
returns-in-Ok-finish-clause-ok c =
    let cut = cut_last _ _ _ c.in-None.is c.cut_line.ensures.cut in
    let back : c.lines.number + 1 - 1 ≡ c.lines.number = omega arith in
    (reading_law c.args.schema.now c.args.text.now (derivation_lines_of c.in-Ok-finish.lines.items)).0
    (rw (c.lines.invariant.same, cut.lines, c.in-Ok.ensures.ok, back) c.in-Ok-finish.ensures.ok)

pub returns-in-Err-clause-err : goal.returns-in-Err-clause-err
unfolding read_lines
returns-in-Err-clause-err c =
    let cut = cut_last _ _ _ c.in-None.is c.cut_line.ensures.cut in
    let back : c.lines.number + 1 - 1 ≡ c.lines.number = omega arith in
    refuses_there c.args.schema.now c.args.text.now c.in-Err.refusal
    (rw (c.lines.invariant.same, cut.lines, c.in-Ok.ensures.ok, back) c.in-Err.ensures.err)

pub returns-in-Err-clause-within : goal.returns-in-Err-clause-within
returns-in-Err-clause-within c = c.in-Err.ensures.within

pub overflow_add-number : goal.overflow_add-number
overflow_add-number c = omega (arith, c.lines.invariant.room)

pub lines-smaller : goal.lines-smaller
lines-smaller c = let cut = cut_more _ _ _ _ c.in-Some.is c.cut_line.ensures.cut in omega (arith, cut.shorter)

pub lines-preserved : goal.lines-preserved
unfolding read_lines
lines-preserved c =
    let cut = cut_more _ _ _ _ c.in-Some.is c.cut_line.ensures.cut in
    record {
      same = rw (c.lines.invariant.same, cut.lines, c.in-Ok.ensures.ok) refl;
      room = omega (arith, c.lines.invariant.room, cut.shorter);
    }
