-- The laws `one_named_violation`, clause by clause.
use Rattle.which_form.proofs.SecondLemmas.{named_not_in_form, one_named, one_last}
use Rattle.which_form.proofs.laws.one_named_violation.Goals as goal

pub returns : goal.returns
returns c = record {
  not_in_form = named_not_in_form;
  violation = one_named;
  last_form = one_last;
}
