-- What is left to prove of `mistake_of`: its clauses where the rule gives nothing, and where it gives another
-- dependency.
use Rattle.std.proofs.Common.{Some, ap, subst, sym, ◌∙◌}
use Rattle.std.proofs.lemmas.List.{length-map}
use Rattle.std.specs.Prelude.{All}
use Rattle.dep_model.specs.Deps.{dependency_of, dependencies_of}
use Rattle.derivation.specs.Derivs.{outcome_of}
use Rattle.derivation_grammar.specs.Meanings.{IsEarlier, premises_of}
use Rattle.derivation_text.specs.Views.{body_of_line}
use Rattle.derivation_mistakes.proofs.Outcomes.{given_within, has_outcome}
use Rattle.derivation_mistakes.proofs.judging.mistake_of.Goals as goal

pub returns-in-None-clause-none : goal.returns-in-None-clause-none
returns-in-None-clause-none c = λ same.
    let line = c.args.line.now in
    let before = c.args.before.now in
    let earlier = subst (λ n. All (IsEarlier n) (premises_of (body_of_line line.body))) (sym (length-map before dependency_of)) c.requires.earlier in
    absurd (has_outcome c.args.schema.now (dependencies_of before) (dependency_of line.stated) (body_of_line line.body) earlier
    (sym c.in-None.ensures.exact))

pub returns-else-same_dependency-clause-within : goal.returns-else-same_dependency-clause-within
returns-else-same_dependency-clause-within c =
    let line = c.args.line.now in
    given_within c.args.schema.now (dependencies_of c.args.before.now) (dependency_of line.stated) line.body
    c.in-Some-Ok.given c.requires.before c.requires.stated
    (sym c.in-Some-Ok.ensures.exact ∙ ap (λ outcome. Some (outcome_of outcome)) c.in-Some-Ok.field-0-is)
