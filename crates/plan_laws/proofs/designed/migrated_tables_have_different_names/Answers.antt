-- The laws `migrated_tables_have_different_names`, clause by clause.
use Rattle.std.proofs.Common.{[]}
use Rattle.plan_laws.proofs.NameLaws.{names_differ, none_given}
use Rattle.plan_laws.proofs.OrderedNames.{stay_apart}
use Rattle.plan_laws.proofs.designed.migrated_tables_have_different_names.Goals as goal

pub returns : goal.returns
returns c = record {
  numbered = λ schema plan rows tables. names_differ schema [] plan rows tables none_given;
  given = names_differ;
  stay_apart = stay_apart;
}
