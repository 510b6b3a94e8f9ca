-- What is left to prove of `bcnf_below`: what it answers, case by case.
use Rattle.attr_sets.specs.Sets.{attributes}
use Rattle.dep_model.specs.Theories.{width_of, theory_of}
use Rattle.dep_model.specs.declared.form.Form.TheVariants.{Bcnf}
use Rattle.dep_model.proofs.FormLemmas.{fourth_bcnf}
use Rattle.which_form.specs.declared.forms.TestedForm.TheVariants.{Higher}
use Rattle.which_form.proofs.VerdictLemmas.{in_form_verdict, tested_verdict}
use Rattle.which_form.proofs.verdicts.bcnf_below.Goals as goal

pub returns-in-Some : goal.returns-in-Some
returns-in-Some c =
    let s = c.args.theory.now in
    record {
      too_wide = c.violation.ensures.too_wide.0;
      scheme = c.violation.ensures.scheme;
      verdict = tested_verdict (width_of s) (theory_of s) (attributes c.args.scheme) (Higher Bcnf) c.violation.result c.violation.ensures.none c.violation.ensures.chosen;
    }

pub returns-in-None-clause-verdict : goal.returns-in-None-clause-verdict
returns-in-None-clause-verdict c =
    let s = c.args.theory.now in
    let n = width_of s in
    let ds = theory_of s in
    let scheme = attributes c.args.scheme in
    in_form_verdict n ds scheme (Higher Bcnf) (fourth_bcnf n ds scheme c.requires.scheme (c.requires.fourth.none.0 (cc)))
