-- What is left to prove of `tested_violation`: its clause `none`, of the form that is given.
use Rattle.std.proofs.Common.{◌↔◌, sym, subst}
use Rattle.std.specs.Prelude.{IsNone, IfOk}
use Rattle.attr_sets.specs.Sets.{attributes}
use Rattle.dep_model.specs.Theories.{width_of, theory_of}
use Rattle.which_form.specs.declared.forms.TestedForm.{TestedForm}
use Rattle.which_form.specs.Tested.{IsInTested}
use Rattle.which_form.proofs.testing.tested_violation.Goals as goal

pub returns-else-is_wide_scheme-clause-none : goal.returns-else-is_wide_scheme-clause-none
returns-else-is_wide_scheme-clause-none c =
    let s = c.args.theory.now in
    subst (λ (form : TestedForm). IsNone c.second_violation.result ↔ IsInTested (width_of s) (theory_of s) form (attributes c.args.scheme))
    (sym c.in-Second.is) c.second_violation.ensures.none

pub returns-in-Higher-clause-none : goal.returns-in-Higher-clause-none
returns-in-Higher-clause-none c =
    let s = c.args.theory.now in
    subst (λ (form : TestedForm). IfOk c.violation.result (λ found. IsNone found ↔ IsInTested (width_of s) (theory_of s) form (attributes c.args.scheme)))
    (sym c.in-Higher.is) c.violation.ensures.none
