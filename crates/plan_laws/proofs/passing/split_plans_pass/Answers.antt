-- The laws `split_plans_pass`, clause by clause.
use Rattle.plan_laws.proofs.PassingLaws.{split_narrow, fourth_passes, wide_split_form, wide_split_join, functional_small, wide_split_small}
use Rattle.plan_laws.proofs.passing.split_plans_pass.Goals as goal

pub returns : goal.returns
returns c = record {
  narrow = split_narrow;
  fourth = fourth_passes;
  wide_form = wide_split_form;
  wide_join = wide_split_join;
  small = functional_small;
  wide_small = wide_split_small;
}
