-- What is left to prove of `violation`: its clause `none`, by `none_in_form`.
use Rattle.std.proofs.Common.{sym, subst}
use Rattle.attr_sets.specs.Sets.{attributes}
use Rattle.dep_model.specs.Theories.{width_of, theory_of}
use Rattle.dep_model.specs.declared.form.Form.{Form}
use Rattle.dep_model.specs.declared.form.Form.TheVariants.{Third}
use Rattle.normal_forms.specs.Chosen.{IsInForm}
use Rattle.normal_forms.proofs.FormLemmas.{none_in_form}
use Rattle.normal_forms.proofs.testing.violation.Goals as goal

pub returns-in-Third-clause-none : goal.returns-in-Third-clause-none
returns-in-Third-clause-none c =
    let s = c.args.theory.now in
    let n = width_of s in
    let ds = theory_of s in
    let scheme = attributes c.args.scheme in (
      (λ none. subst (λ (f : Form). IsInForm n ds f scheme) (sym c.in-Third.is) (c.third_violation.ensures.none none)),
      (λ formed. none_in_form n ds Third scheme c.third_violation.result c.requires.scheme c.third_violation.ensures.chosen (subst (λ (f : Form). IsInForm n ds f scheme) c.in-Third.is formed)),
    )
