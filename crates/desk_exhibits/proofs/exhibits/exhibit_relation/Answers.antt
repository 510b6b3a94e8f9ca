-- What is left to prove of `exhibit_relation`: what it answers in the cases `Ok`, `TooWide`,
-- `TooManyRows` and `NotFunctional`.
use Rattle.std.proofs.Common.{◌≡◌, inl, inr, subst, sym, ap, ◌∙◌}
use Rattle.armstrong_rel.specs.declared.refusal.ExhibitRefusal.{ExhibitRefusal}
use Rattle.armstrong_rel.specs.Refusals.{IsRefusedExhibit}
use Rattle.attr_sets.specs.Attributes.{Attributes, below}
use Rattle.attr_sets.specs.Sets.{attributes}
use Rattle.csv_text.specs.Rows.{rows_text}
use Rattle.dep_model.proofs.FailureLemmas.{refused_is}
use Rattle.schema_model.specs.Schemas.{names_of, theory_of, universe_of, width_of, theory_in}
use Rattle.desk_exhibits.proofs.ExhibitLemmas.{exhibit_numerals, shown_example}
use Rattle.typed_rows.specs.Shown.{shown_relation}
use Rattle.typed_rows.specs.Typed.{HoldsNumerals}
use Rattle.dep_model.specs.Tuples.{Relation}
use Rattle.schema_printer.specs.Spelling.{printed_names_of}
use Rattle.desk_responses.specs.ResponseValues.{Says}
use Rattle.desk_responses.specs.Lines.{too_wide_text}
use Rattle.desk_responses.specs.Responses.{response_value}
use Rattle.desk_responses.specs.declared.status.Status.TheVariants.{Yes, Refused}
use Rattle.desk_exhibits.proofs.exhibits.exhibit_relation.Goals as goal

pub response_of-requires-clause-numerals : goal.response_of-requires-clause-numerals
response_of-requires-clause-numerals c =
    subst HoldsNumerals (sym c.deref.ensures.value)
    (exhibit_numerals (width_of c.args.schema.now) (theory_of c.args.schema.now) c.in-Ok.rows.items (rw (c.theory.ensures.theory) at c.in-Ok.ensures.rows) c.in-Ok.ensures.within_limit)

pub returns-in_ok-response_of-in-Ok : goal.returns-in_ok-response_of-in-Ok
returns-in_ok-response_of-in-Ok c =
    let s = c.args.schema.now in
    let rows = c.in-Ok.rows.items in
    record {
      response = inl (
        shown_relation s rows,
        shown_example s rows (rw (c.theory.ensures.theory) at c.in-Ok.ensures.functional) (rw (c.theory.ensures.theory) at c.in-Ok.ensures.not_too_wide) c.in-Ok.ensures.within_limit (rw (c.theory.ensures.theory) at c.in-Ok.ensures.rows) (rw (c.theory.ensures.theory) at c.in-Ok.ensures.legal)
            (rw (c.theory.ensures.theory) at c.in-Ok.ensures.exact),
        subst (λ (rows : Relation). Says Yes (rows_text (names_of s) (shown_relation s rows)) (response_value c.in_ok-response_of-in-Ok.field-0)) c.deref.ensures.value
            c.in_ok-response_of-in-Ok.ensures.says,
      );
    }

pub returns-in-TooWide : goal.returns-in-TooWide
returns-in-TooWide c =
    let s = c.args.schema.now in
    let all : attributes c.full.result ≡ universe_of s = c.full.ensures.members ∙ ap below c.width.ensures.count in
    record {
      response = λ response is. inr (inr (inl (
        subst (λ (refusal : ExhibitRefusal). IsRefusedExhibit (theory_in s) refusal) c.in-TooWide.is
            (refused_is _ _ _ c.in-Err-Refused.field-0-is (rw (c.theory.ensures.theory) at c.in-Err-Refused.ensures.refused)),
        subst (λ (x : Attributes). Says Refused (too_wide_text (printed_names_of s) x) (response_value response)) all (c.too_wide_exit.ensures.says response is),
      )));
    }

pub returns-in-TooManyRows : goal.returns-in-TooManyRows
returns-in-TooManyRows c =
    let s = c.args.schema.now in
    let refused = subst (λ (refusal : ExhibitRefusal). IsRefusedExhibit (theory_in s) refusal) c.in-TooManyRows.is
    (refused_is _ _ _ c.in-Err-Refused.field-0-is (rw (c.theory.ensures.theory) at c.in-Err-Refused.ensures.refused)) in
    record { response = λ response is. inr (inr (inr (refused, c.too_many_rows_exit.ensures.says response is))) }

pub returns-in-NotFunctional : goal.returns-in-NotFunctional
returns-in-NotFunctional c =
    let s = c.args.schema.now in
    let refused = subst (λ (refusal : ExhibitRefusal). IsRefusedExhibit (theory_in s) refusal) c.in-NotFunctional.is
    (refused_is _ _ _ c.in-Err-Refused.field-0-is (rw (c.theory.ensures.theory) at c.in-Err-Refused.ensures.refused)) in
    record { response = λ response is. inr (inl (c.in-NotFunctional.dep, refused, c.multivalued_exit.ensures.says response is)) }
