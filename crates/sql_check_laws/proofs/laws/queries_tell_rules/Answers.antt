-- The laws `queries_tell_rules`, clause by clause.
use Rattle.sql_check_laws.proofs.IntegerLemmas.{integers_told}
use Rattle.sql_check_laws.proofs.LawLemmas.{dependencies_told, legal_told}
use Rattle.sql_check_laws.proofs.MissingLemmas.{missing_told}
use Rattle.sql_check_laws.proofs.ScriptLemmas.{rules_told}
use Rattle.sql_check_laws.proofs.laws.queries_tell_rules.Goals as goal

pub returns : goal.returns
returns c = record {
  dependencies = dependencies_told;
  legal = legal_told;
  missing_values = missing_told;
  integers = integers_told;
  script = rules_told;
}
