-- The laws `migrated_tables_are_rejoined`, clause by clause.
use Rattle.plan_laws.proofs.LookedUpLaws.{looked_up_again}
use Rattle.plan_laws.proofs.OwnLookUps.{looked_up_where_optional, there_and_back}
use Rattle.plan_laws.proofs.RejoinedLaws.{rejoined, rejoined_in_any_order}
use Rattle.plan_laws.proofs.rejoined.migrated_tables_are_rejoined.Goals as goal

pub returns : goal.returns
returns c = record {
  in_order = rejoined;
  in_any_order = rejoined_in_any_order;
  looked_up = λ schema names plan rows tables parts keyed counts lossless planned legal tidy are have looks.
      looked_up_again schema names plan rows tables parts lossless planned legal tidy are have keyed counts looks;
  have_look_ups = λ schema names plan rows tables parts lossless readable some are have.
      looked_up_where_optional schema names plan rows tables parts lossless readable are have some;
  there_and_back = there_and_back;
}
