-- What is left to prove of `second_below`: what it answers, case by case.
use Rattle.attr_sets.specs.Sets.{attributes}
use Rattle.dep_model.specs.Theories.{width_of, theory_of}
use Rattle.which_form.specs.declared.forms.TestedForm.TheVariants.{Second}
use Rattle.which_form.proofs.SecondLemmas.{third_second}
use Rattle.which_form.proofs.VerdictLemmas.{in_form_verdict}
use Rattle.which_form.proofs.verdicts.second_below.Goals as goal

pub returns-in-Some : goal.returns-in-Some
returns-in-Some c = record { verdict = record { none = c.second_violation.ensures.none; named = c.second_violation.ensures.named } }

pub returns-in-None : goal.returns-in-None
returns-in-None c =
    let s = c.args.theory.now in
    let n = width_of s in
    let ds = theory_of s in
    let scheme = attributes c.args.scheme in
    record { verdict = in_form_verdict n ds scheme Second (third_second n ds scheme (c.requires.third.none.0 (cc))) }
