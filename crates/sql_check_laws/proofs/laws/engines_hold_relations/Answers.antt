-- The laws `engines_hold_relations`, clause by clause.
use Rattle.sql_check_laws.specs.HeldRelations.{cell_of}
use Rattle.sql_check_laws.proofs.EmptyLemmas.{some_engine_holds_missing, missing_where_empty, none_missing_there}
use Rattle.sql_check_laws.proofs.LawLemmas.{dependencies_told}
use Rattle.sql_check_laws.proofs.WitnessLemmas.{some_engine_holds, some_engine_holds_texts}
use Rattle.sql_check_laws.proofs.laws.engines_hold_relations.Goals as goal

pub returns : goal.returns
returns c = record {
  cells = some_engine_holds;
  texts = some_engine_holds_texts;
  empty_missing = some_engine_holds_missing;
  empty = missing_where_empty;
  none_missing = none_missing_there;
  told = λ e table s r held over. dependencies_told e table s (cell_of s) r held over;
}
