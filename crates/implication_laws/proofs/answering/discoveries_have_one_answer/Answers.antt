-- The laws `discoveries_have_one_answer`, clause by clause.
use Rattle.implication_laws.proofs.OneAnswer.{few_rules_answer, one_rules_answer, few_small_answer, one_small_answer, one_row_keys_answer, one_whole_answer, one_near_answer}
use Rattle.implication_laws.proofs.answering.discoveries_have_one_answer.Goals as goal

pub returns : goal.returns
returns c = record {
  rules = one_rules_answer;
  few_rules = few_rules_answer;
  small_rules = one_small_answer;
  few_small_rules = few_small_answer;
  row_keys = one_row_keys_answer;
  all_rules = one_whole_answer;
  near_rules = one_near_answer;
}
