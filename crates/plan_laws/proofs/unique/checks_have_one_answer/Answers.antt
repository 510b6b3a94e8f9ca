-- The laws `checks_have_one_answer`, clause by clause.
use Rattle.plan_laws.proofs.FormTables.{one_synthesis}
use Rattle.plan_laws.proofs.UniqueLaws.{one_form, one_join, one_keeping}
use Rattle.plan_laws.proofs.unique.checks_have_one_answer.Goals as goal

pub returns : goal.returns
returns c = record {
  synthesize = one_synthesis;
  form = one_form;
  join = one_join;
  keeps = one_keeping;
}
