-- What is left to prove of `breach_of`: its clause, form by form.
use Rattle.std.proofs.Common.{sym, ap, subst, ◌∙◌}
use Rattle.dep_model.specs.declared.form.Form.{Form}
use Rattle.schema_model.specs.Schemas.{theory_of, width_of}
use Rattle.which_form.specs.Verdicts.{IsVerdict}
use Rattle.which_form.specs.declared.forms.TestedForm.{TestedForm}
use Rattle.which_form.specs.declared.forms.TestedForm.TheVariants.{Higher}
use Rattle.desk_designs.proofs.forms.breach_of.Goals as goal

pub returns-in-Second : goal.returns-in-Second
returns-in-Second c = record {
  verdict = λ s scheme are. subst (λ (form : TestedForm). IsVerdict (width_of s) (theory_of s) scheme form c.args.forms.second)
      (sym c.in-Second.is) are.verdicts.second;
}

pub returns-in-Third : goal.returns-in-Third
returns-in-Third c = record {
  verdict = λ s scheme are. subst (λ (form : TestedForm). IsVerdict (width_of s) (theory_of s) scheme form c.args.forms.third)
      (sym (c.in-Higher.is ∙ ap (λ (form : Form). Higher form) c.in-Third.is)) are.verdicts.third;
}

pub returns-in-Bcnf : goal.returns-in-Bcnf
returns-in-Bcnf c = record {
  verdict = λ s scheme are. subst (λ (form : TestedForm). IsVerdict (width_of s) (theory_of s) scheme form c.args.forms.bcnf)
      (sym (c.in-Higher.is ∙ ap (λ (form : Form). Higher form) c.in-Bcnf.is)) are.verdicts.bcnf;
}

pub returns-in-Fourth : goal.returns-in-Fourth
returns-in-Fourth c = record {
  verdict = λ s scheme are. subst (λ (form : TestedForm). IsVerdict (width_of s) (theory_of s) scheme form c.args.forms.fourth)
      (sym (c.in-Higher.is ∙ ap (λ (form : Form). Higher form) c.in-Fourth.is)) are.verdicts.fourth;
}
