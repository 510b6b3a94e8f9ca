-- The laws `answers_on_goals_agree`, clause by clause.
use Rattle.implication_laws.proofs.ImplyingLaws.{lines-status, not_yes_and_no, accepted_yes, implied_obeyed}
use Rattle.implication_laws.proofs.implying.answers_on_goals_agree.Goals as goal

pub returns : goal.returns
returns c = record {
  status = lines-status;
  excluded = λ schema other goal first second same decides also.
      not_yes_and_no first second (lines-status schema other goal first second same decides also);
  accepted = accepted_yes;
  obeyed = implied_obeyed;
}
