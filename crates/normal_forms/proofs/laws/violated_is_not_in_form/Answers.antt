-- The laws `violated_is_not_in_form`, clause by clause.
use Rattle.normal_forms.proofs.ViolationLemmas.{not_in_form, violation_cut}
use Rattle.normal_forms.proofs.laws.violated_is_not_in_form.Goals as goal

pub returns : goal.returns
returns c = record {
  not_in_form = not_in_form;
  parts = violation_cut;
}
