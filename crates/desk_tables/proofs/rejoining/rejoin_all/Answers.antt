-- What is left to prove of `rejoin_all`: what it answers, case by case.
use Rattle.dep_model.proofs.FailureLemmas.{refused_is}
use Rattle.std.proofs.Common.{inl, inr}
use Rattle.desk_tables.proofs.rejoining.rejoin_all.Goals as goal

pub returns-in_ok-response_of-in-Ok : goal.returns-in_ok-response_of-in-Ok
returns-in_ok-response_of-in-Ok c = record {
  response = inl (
    c.in-Ok.rows,
    record {
      join = c.in-Ok.ensures.rows;
      natural = c.in-Ok.ensures.natural;
      gives_back = c.in-Ok.ensures.gives_back;
      covered = c.in-Ok.ensures.covered;
    },
    c.in_ok-response_of-in-Ok.ensures.says,
  );
}

pub returns-in-Err-Refused : goal.returns-in-Err-Refused
returns-in-Err-Refused c = record {
  response = λ response is.
      inr (
        c.in-Err-Refused.refusal,
        refused_is _ _ _ c.in-Err-Refused.field-0-is c.in-Err-Refused.ensures.refusal,
        c.join_refusal_exit.ensures.says response is,
      );
}
