-- What is left to prove of `read_definition`: what it answers, case by case, and that a round of its loop keeps the
-- invariant, by `ReadingLemmas`.
use Rattle.std.proofs.Common.{◌≡◌, ◌≤◌, ◌+◌, ◌∷◌, length, ◌∙◌, subst, sym}
use Rattle.sql_lexemes.specs.Statements.{statement_value, statements_in}
use Rattle.sql_definitions.proofs.ReadingLemmas.{IsReading, FitsWhole, past_statement, text_refused, all_read, as_told, is_found, is_missing, fits_on}
use Rattle.sql_definitions.proofs.reading.read_definition.Goals as goal

pub statements-preserved : goal.statements-preserved
statements-preserved c =
    let cut = c.in_ok-cut.cut in
    let first : statements_in c.args.dialect c.statements.rest ≡ statement_value cut.statement ∷ statements_in c.args.dialect cut.rest =
    rw c.in-Some.is c.in_ok-cut.ensures.cut.first in
    let fits : c.in-Some.left.place + length c.in-Some.left.text.now ≤ length c.args.text.now =
    subst (FitsWhole (length c.args.text.now)) c.in-Some.is c.statements.invariant.fits in
    record {
      same = c.statements.invariant.same
          ∙ past_statement c.args.dialect c.args.wanted.now (statements_in c.args.dialect c.statements.rest) (statements_in c.args.dialect cut.rest) (statement_value cut.statement) _ _
          first c.in-Ok.ensures.ok;
      fits = fits_on _ _ _ cut.rest fits c.in_ok-cut.ensures.cut.fits;
    }

pub returns-in-Err-clause-err : goal.returns-in-Err-clause-err
returns-in-Err-clause-err c =
    let cut = c.in_ok-cut.cut in
    text_refused c.args.dialect c.args.wanted.now c.args.text.now c.statements.rest (statement_value cut.statement) (statements_in c.args.dialect cut.rest) _ c.in-Err.failure
    c.statements.invariant (rw c.in-Some.is c.in_ok-cut.ensures.cut.first) c.in-Err.ensures.err

pub returns-else-is_empty-clause-ok : goal.returns-else-is_empty-clause-ok
returns-else-is_empty-clause-ok c =
    all_read _ _ _ _ (subst (λ rest. IsReading c.args.dialect c.args.wanted.now c.args.text.now rest c.statements.definition) c.in_default.is c.statements.invariant)
    ∙ is_found _ (as_told _ _ c.columns.ensures.columns ∙ sym c.is_empty.ensures ∙ c.if-is_empty.false)

pub returns-then-is_empty-clause-err : goal.returns-then-is_empty-clause-err
returns-then-is_empty-clause-err c =
    rw c.refused.ensures.refused
    (all_read _ _ _ _ (subst (λ rest. IsReading c.args.dialect c.args.wanted.now c.args.text.now rest c.statements.definition) c.in_default.is c.statements.invariant)
    ∙ is_missing _ (as_told _ _ c.columns.ensures.columns ∙ sym c.is_empty.ensures ∙ c.if-is_empty.true))
