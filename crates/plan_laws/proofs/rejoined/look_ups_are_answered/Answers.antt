-- The laws `look_ups_are_answered`, clause by clause.
use Rattle.std.proofs.Common.{refl}
use Rattle.plan_laws.proofs.JoinAnswers.{answered_rows, answered_too_many, answered_uncovered}
use Rattle.plan_laws.proofs.rejoined.look_ups_are_answered.Goals as goal

pub returns : goal.returns
returns c = record {
  rows = λ schema tables keyed counts rows response looks. answered_rows schema tables keyed counts looks rows response;
  uncovered = λ schema tables keyed counts a response looks. answered_uncovered schema tables keyed counts looks a response;
  too_many = λ schema tables keyed counts after response looks. answered_too_many schema tables keyed counts looks after response;
  view = λ tables. refl;
}
