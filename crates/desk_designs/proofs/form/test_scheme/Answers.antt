-- What is left to prove of `test_scheme`: its clause `ends`.
use Rattle.std.proofs.Common.{inr, Option, subst}
use Rattle.std.proofs.lemmas.Bool.{false≢true}
use Rattle.std.specs.Prelude.{IfSome}
use Rattle.attr_sets.specs.Sets.{attributes}
use Rattle.schema_model.specs.Schemas.{width_of, theory_of}
use Rattle.which_form.specs.Tested.{IsNamedViolation}
use Rattle.normal_forms.specs.declared.forms.Breach.{Breach}
use Rattle.desk_designs.proofs.form.test_scheme.Goals as goal

pub returns-in-Ok-Some-clause-ends : goal.returns-in-Ok-Some-clause-ends
returns-in-Ok-Some-clause-ends c = λ response is.
    let s = c.args.schema.now in
    let not_empty = c.in-Ok-Some in
    let chosen = subst (λ (found : Option Breach). IfSome found (λ breach. IsNamedViolation (width_of s) (theory_of s) c.args.form (attributes c.args.scheme) (attributes breach.lhs) (attributes breach.rhs)))
    not_empty.field-0-is (rw (c.theory.ensures.theory) at not_empty.ensures.named) in
    inr (
      (λ wide. false≢true ((rw (c.theory.ensures.theory) at not_empty.ensures.too_wide).1 wide)),
      (attributes not_empty.breach.lhs, attributes not_empty.breach.rhs, chosen, c.violation_exit.ensures.says response is),
    )
