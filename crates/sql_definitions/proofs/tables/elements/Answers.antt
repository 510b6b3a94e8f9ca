-- What is left to prove of `elements`: what it answers, case by case, and that a round of its loop keeps the invariant,
-- by `ReadingLemmas`.
use Rattle.std.proofs.Common.{◌≤◌, length, arith, ap, sym, ◌∙◌, subst}
use Rattle.sql_definitions.specs.Facts.{Fails}
use Rattle.sql_definitions.specs.Tables.{elements}
use Rattle.sql_definitions.proofs.ReadingLemmas.{first_read, first_refused, table_closed, table_goes_on, table_open, left_after, no_more, is_none, is_some}
use Rattle.sql_definitions.proofs.tables.elements.Goals as goal

pub returns-in-Err-clause-err : goal.returns-in-Err-clause-err
returns-in-Err-clause-err c =
    let rest = c.split_at.result.1.now in
    let some : 1 ≤ length rest = omega (arith, c.elements-test.true, c.split_at.ensures.back_len) in
    let whole = c.elements.invariant.0 ∙ ap (λ ls. elements c.args.dialect c.args.end 0 ls c.elements.definition) (sym c.split_at.ensures.back) in
    subst (Fails c.in-Err.failure) (sym whole)
    (first_refused _ _ rest _ c.split_at-in-elements.result.1.now c.element_length-length.result _ _ some c.element_length-length.ensures.length
    c.split_at-in-elements.ensures.front c.split_at-in-elements.ensures.back (rw c.place_of.ensures.place at c.in-Err.ensures.err))

pub returns-then-is_empty-clause-err : goal.returns-then-is_empty-clause-err
returns-then-is_empty-clause-err c =
    let rest = c.split_at.result.1.now in
    let some : 1 ≤ length rest = omega (arith, c.elements-test.true, c.split_at.ensures.back_len) in
    let whole = c.elements.invariant.0 ∙ ap (λ ls. elements c.args.dialect c.args.end 0 ls c.elements.definition) (sym c.split_at.ensures.back) in
    let step = first_read _ _ rest _ c.split_at-in-elements.result.1.now c.element_length-length.result _ _ some c.element_length-length.ensures.length
    c.split_at-in-elements.ensures.front c.split_at-in-elements.ensures.back (rw c.place_of.ensures.place at c.in-Ok.ensures.ok) in
    rw c.refused.ensures.refused (whole ∙ step ∙ table_open _ _ _ _ (is_none _ c.if-is_empty.ensures))

pub returns-then-closes_table-clause-ok : goal.returns-then-closes_table-clause-ok
returns-then-closes_table-clause-ok c =
    let rest = c.split_at.result.1.now in
    let some : 1 ≤ length rest = omega (arith, c.elements-test.true, c.split_at.ensures.back_len) in
    let whole = c.elements.invariant.0 ∙ ap (λ ls. elements c.args.dialect c.args.end 0 ls c.elements.definition) (sym c.split_at.ensures.back) in
    let step = first_read _ _ rest _ c.split_at-in-elements.result.1.now c.element_length-length.result _ _ some c.element_length-length.ensures.length
    c.split_at-in-elements.ensures.front c.split_at-in-elements.ensures.back (rw c.place_of.ensures.place at c.in-Ok.ensures.ok) in
    let closed = table_closed _ c.split_at-in-elements.result.1.now _ _ (sym c.if-closes_table.ensures.exact) in
    rw (whole ∙ step ∙ closed) (rw c.place_of-then-closes_table.ensures.place at c.close_table.ensures.ok)

pub returns-then-closes_table-clause-err : goal.returns-then-closes_table-clause-err
returns-then-closes_table-clause-err c =
    let rest = c.split_at.result.1.now in
    let some : 1 ≤ length rest = omega (arith, c.elements-test.true, c.split_at.ensures.back_len) in
    let whole = c.elements.invariant.0 ∙ ap (λ ls. elements c.args.dialect c.args.end 0 ls c.elements.definition) (sym c.split_at.ensures.back) in
    let step = first_read _ _ rest _ c.split_at-in-elements.result.1.now c.element_length-length.result _ _ some c.element_length-length.ensures.length
    c.split_at-in-elements.ensures.front c.split_at-in-elements.ensures.back (rw c.place_of.ensures.place at c.in-Ok.ensures.ok) in
    let closed = table_closed _ c.split_at-in-elements.result.1.now _ _ (sym c.if-closes_table.ensures.exact) in
    rw (whole ∙ step ∙ closed) (rw c.place_of-then-closes_table.ensures.place at c.close_table.ensures.err)

pub elements-preserved : goal.elements-preserved
elements-preserved c =
    let rest = c.split_at.result.1.now in
    let some : 1 ≤ length rest = omega (arith, c.elements-test.true, c.split_at.ensures.back_len) in
    let whole = c.elements.invariant.0 ∙ ap (λ ls. elements c.args.dialect c.args.end 0 ls c.elements.definition) (sym c.split_at.ensures.back) in
    let step = first_read _ _ rest _ c.split_at-in-elements.result.1.now c.element_length-length.result _ _ some c.element_length-length.ensures.length
    c.split_at-in-elements.ensures.front c.split_at-in-elements.ensures.back (rw c.place_of.ensures.place at c.in-Ok.ensures.ok) in
    let more = is_some _ c.if-is_empty.ensures in
    let goes_on = table_goes_on _ c.split_at-in-elements.result.1.now _ _ more (sym c.if-closes_table.ensures.exact) in (
      whole ∙ step ∙ goes_on ∙ left_after _ _ c.elements.at c.element_length-length.result c.args.lexemes.now rest _ c.split_at.ensures.back,
      omega (arith, more, c.split_at.ensures.back_len, c.split_at-in-elements.ensures.back_len),
    )

pub returns-clause-err : goal.returns-clause-err
returns-clause-err c = rw c.refused-2.ensures.refused (c.elements.invariant.0 ∙ no_more _ _ c.elements.at c.args.lexemes.now _ c.elements-test.false)
