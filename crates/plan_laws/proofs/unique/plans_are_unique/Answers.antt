-- The laws `plans_are_unique`, clause by clause.
use Rattle.plan_laws.proofs.FormTables.{same_schemes}
use Rattle.plan_laws.proofs.OneDesign.{one_sound_design}
use Rattle.plan_laws.proofs.UniqueLaws.{split_same, wide_split_same}
use Rattle.plan_laws.proofs.unique.plans_are_unique.Goals as goal

pub returns : goal.returns
returns c = record {
  split = split_same;
  split_wide = wide_split_same;
  in_form = same_schemes;
  design = one_sound_design;
}
