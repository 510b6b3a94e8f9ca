-- The laws `questions_are_answered`, clause by clause.
use Rattle.desk_laws.proofs.QuestionLaws.{basis_answered, closure_answered, project_answered, check_key_answered, keys_of_plan_answered, same_answered, cover_checked, canonical_checked}
use Rattle.desk_laws.proofs.complete_questions.questions_are_answered.Goals as goal

pub returns : goal.returns
returns c = record {
  basis = basis_answered;
  closure = closure_answered;
  project = project_answered;
  check_key = check_key_answered;
  keys_of_plan = keys_of_plan_answered;
  check_same = same_answered;
  check_cover = cover_checked;
  check_canonical_cover = canonical_checked;
}
