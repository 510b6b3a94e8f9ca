-- The laws `forms_are_answered`, clause by clause.
use Rattle.desk_laws.proofs.TableLaws.{check_answered, check_keeps_answered, split_answered, split_bcnf_asks, split_fourth_asks, split_wide_answered, exhibit_answered}
use Rattle.desk_laws.proofs.FormLaws.{form_answered, forms_answered, fewest_answered}
use Rattle.dep_model.specs.declared.form.Form.TheVariants.{Bcnf, Fourth}
use Rattle.desk_laws.proofs.complete_tables.forms_are_answered.Goals as goal

pub returns : goal.returns
returns c = record {
  check_form = check_answered;
  form = form_answered;
  form_of_plan = forms_answered;
  fewest = fewest_answered;
  check_keeps = check_keeps_answered;
  split_bcnf = λ files name. split_answered files _ name Bcnf (split_bcnf_asks files name);
  split_fourth = λ files name. split_answered files _ name Fourth (split_fourth_asks files name);
  split_wide = split_wide_answered;
  exhibit = exhibit_answered;
}
