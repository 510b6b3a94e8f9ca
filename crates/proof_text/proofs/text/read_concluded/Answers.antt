-- What is left to prove of `read_concluded`: its clauses `err`, `within`, `ok`, `concludes` and two
-- more, what `read_one` requires, that the invariant of its loop holds at first and stays, that its
-- loop ends, and that its sums fit, by `stated_within` and `line_within`.
use Rattle.std.proofs.Common.{ap, arith, length, refl, subst, sym, true, ◌+◌, ◌-◌, ◌∙◌, ◌≡◌}
use Rattle.derivation.specs.Derivs.{tree_of}
use Rattle.lexer.specs.Lines.{line_texts, without_mark}
use Rattle.lexer.proofs.LineEnds.{CutsAt-any, cut_last, cut_more}
use Rattle.proof_text.specs.Views.{checker_state_of}
use Rattle.proof_grammar.specs.Texts.{read_certificate_lines, read_proof}
use Rattle.dep_model.proofs.FailureLemmas.{refused_is}
use Rattle.proof_grammar.specs.ValidStates.{IsCheckerState}
use Rattle.dep_model.specs.Deps.{dependency_of}
use Rattle.schema_model.specs.Schemas.{universe_of}
use Rattle.proof_grammar.proofs.CertificateLaws.{spelled_there}
use Rattle.proof_grammar.proofs.TextRefusals.{refuses_there}
use Rattle.proof_text.proofs.PrintingLemmas.{stated_within}
use Rattle.proof_grammar.proofs.CheckedLemmas.{read_proof_checked, read_one_keeps, root_proves}
use Rattle.proof_text.proofs.TextLemmas.{unmarked_within, line_within}
use Rattle.proof_text.proofs.text.read_concluded.Goals as goal

pub lines-init : goal.lines-init
unfolding read_proof
lines-init c = record {
  same = ap (λ state. read_certificate_lines c.args.schema.now true 1 state (line_texts (without_mark c.args.text.now))) (sym c.new-state.ensures.empty)
      ∙ ap (λ text. read_certificate_lines c.args.schema.now true 1 (checker_state_of c.new-state.result) (line_texts text)) (sym c.without_mark-rest.ensures.text);
  room = omega (arith, unmarked_within c.args.text.now, ap length c.without_mark-rest.ensures.text);
  checker_state = subst (IsCheckerState c.args.schema.now) (sym c.new-state.ensures.empty) (record { stand = tt {0}; count = refl; lines_fit = omega arith });
}

pub read_one-requires-clause-fits_u32 : goal.read_one-requires-clause-fits_u32
read_one-requires-clause-fits_u32 c = omega (arith, c.lines.invariant.room, line_within _ _ _ c.cut_line.ensures.cut)

pub returns-in-Err-Refused-clause-err : goal.returns-in-Err-Refused-clause-err
unfolding read_certificate_lines
returns-in-Err-Refused-clause-err c =
    let found = refused_is _ _ _ c.in-Err-Refused.field-0-is c.in-Err-Refused.ensures.err in
    rw c.in-Err-Refused.field-0-is
    (refuses_there c.args.schema.now c.args.text.now (record { line = c.lines.number; kind = c.in-Err-Refused.kind })
    (rw (c.lines.invariant.same, CutsAt-any _ _ _ c.cut_line.ensures.cut, found) refl))

pub returns-in-Err-Refused-clause-within : goal.returns-in-Err-Refused-clause-within
returns-in-Err-Refused-clause-within c =
    rw c.in-Err-Refused.field-0-is (refused_is _ _ _ c.in-Err-Refused.field-0-is c.in-Err-Refused.ensures.within)

pub returns-in-Ok-finish-clause-ok : goal.returns-in-Ok-finish-clause-ok
unfolding read_certificate_lines
returns-in-Ok-finish-clause-ok c =
    let cut = cut_last _ _ _ c.in-None.is c.cut_line.ensures.cut in
    let back : c.lines.number + 1 - 1 ≡ c.lines.number = omega arith in
    spelled_there c.args.schema.now c.args.text.now (tree_of c.in-Ok-finish.read.deriv.value)
    (rw (c.lines.invariant.same, cut.lines, c.in-Ok.ensures.ok, back) c.in-Ok-finish.ensures.ok)

pub returns-in-Ok-finish-clause-concludes : goal.returns-in-Ok-finish-clause-concludes
returns-in-Ok-finish-clause-concludes c =
    let s = c.args.schema.now in
    let read = c.in-Ok-finish.read in
    let checker_state = read_one_keeps s _ _ _ _ _ c.lines.invariant.checker_state c.in-Ok.ensures.ok in
    root_proves s (checker_state_of c.read_one.new.state) (tree_of read.deriv.value) (dependency_of read.dep) checker_state c.in-Ok-finish.ensures.root

pub returns-in-Ok-finish-clause-checked : goal.returns-in-Ok-finish-clause-checked
unfolding read_certificate_lines
returns-in-Ok-finish-clause-checked c =
    let cut = cut_last _ _ _ c.in-None.is c.cut_line.ensures.cut in
    let back : c.lines.number + 1 - 1 ≡ c.lines.number = omega arith in
    read_proof_checked c.args.schema.now c.args.text.now (tree_of c.in-Ok-finish.read.deriv.value)
    (rw (c.lines.invariant.same, cut.lines, c.in-Ok.ensures.ok, back) c.in-Ok-finish.ensures.ok)

pub returns-in-Ok-finish-clause-dep : goal.returns-in-Ok-finish-clause-dep
returns-in-Ok-finish-clause-dep c =
    let read = c.in-Ok-finish.read in
    stated_within c.args.schema.now read.deriv.value (dependency_of read.dep) (returns-in-Ok-finish-clause-concludes c)

pub returns-in-Err-clause-err : goal.returns-in-Err-clause-err
unfolding read_certificate_lines
returns-in-Err-clause-err c =
    let cut = cut_last _ _ _ c.in-None.is c.cut_line.ensures.cut in
    let back : c.lines.number + 1 - 1 ≡ c.lines.number = omega arith in
    refuses_there c.args.schema.now c.args.text.now c.in-Err.refusal
    (rw (c.lines.invariant.same, cut.lines, c.in-Ok.ensures.ok, back) c.in-Err.ensures.err)

pub returns-in-Err-clause-within : goal.returns-in-Err-clause-within
returns-in-Err-clause-within c = c.in-Err.ensures.within (universe_of c.args.schema.now)

pub overflow_add-number : goal.overflow_add-number
overflow_add-number c = omega (arith, c.lines.invariant.room)

pub lines-smaller : goal.lines-smaller
lines-smaller c = let cut = cut_more _ _ _ _ c.in-Some.is c.cut_line.ensures.cut in omega (arith, cut.shorter)

pub lines-preserved : goal.lines-preserved
unfolding read_certificate_lines
lines-preserved c =
    let cut = cut_more _ _ _ _ c.in-Some.is c.cut_line.ensures.cut in
    record {
      same = rw (c.lines.invariant.same, cut.lines, c.in-Ok.ensures.ok) refl;
      room = omega (arith, c.lines.invariant.room, cut.shorter);
      checker_state = read_one_keeps c.args.schema.now _ _ _ _ _ c.lines.invariant.checker_state c.in-Ok.ensures.ok;
    }
