-- What is left to prove of `Draft::list_names`: its clauses `ok` and `err` and that a round of its
-- loop keeps the invariant, by `ListLemmas`.
use Rattle.std.proofs.Common.{◌∙◌, Err, refl, ap, sym}
use Rattle.dep_model.proofs.FailureLemmas.{refused_is}
use Rattle.schema_grammar.specs.declared.refusal.SchemaRefusal.{SchemaRefusal}
use Rattle.schema_reader.proofs.ListLemmas.{names_ended, names_wanted, names_stopped, names_refused, names_more}
use Rattle.schema_reader.proofs.draft.Draft.list_names.Goals as goal

pub returns-then-any_name-clause-ok : goal.returns-then-any_name-clause-ok
returns-then-any_name-clause-ok c = c.names.invariant.0 ∙ names_ended _ _ _ _ _ c.if-any_name.true c.in-End.ensures.exact

pub returns-else-any_name-clause-err : goal.returns-else-any_name-clause-err
returns-else-any_name-clause-err c =
    c.names.invariant.0 ∙ names_wanted _ _ _ _ _ c.if-any_name.false c.in-End.ensures.exact
    ∙ ap (λ (e : SchemaRefusal). Err e) (sym c.refusal_of_end.ensures.refusal)

pub returns-in-Refusal-clause-err : goal.returns-in-Refusal-clause-err
returns-in-Refusal-clause-err c = c.names.invariant.0 ∙ names_stopped _ _ _ _ _ _ c.in-Refusal.ensures.exact

pub returns-in-Err-Refused-clause-err : goal.returns-in-Err-Refused-clause-err
returns-in-Err-Refused-clause-err c =
    let refused = refused_is _ _ _ c.in-Err-Refused.field-0-is c.in-Err-Refused.ensures.err in
    c.names.invariant.0 ∙ names_refused _ _ _ _ _ _ _ _ c.in-Token.ensures.exact.led refused
    ∙ rw (c.refusal_of.ensures.refusal, c.in-Err-Refused.field-0-is) refl

pub names-preserved : goal.names-preserved
names-preserved c = (c.names.invariant.0 ∙ names_more _ _ _ _ _ _ _ _ c.in-Token.ensures.exact.led c.in-Ok.ensures.ok, c.in-Ok.ensures.within_limit)
