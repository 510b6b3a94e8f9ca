-- What is left to prove of `split_plan`: its clause `exit` and what `split_exit` requires.
use Rattle.dep_model.proofs.FailureLemmas.{refused_is}
use Rattle.desk_designs.proofs.decomposition.split_plan.Goals as goal

pub split_exit-requires : goal.split_exit-requires
split_exit-requires c = record {
  refused = (c.args.form, c.requires.form, refused_is _ _ _ c.in-Err-Refused.field-0-is (rw (c.theory.ensures.theory) at c.in-Err-Refused.ensures.refused));
}

pub returns-in-Err-Refused-clause-exit : goal.returns-in-Err-Refused-clause-exit
returns-in-Err-Refused-clause-exit c =
    c.split_exit.ensures.exit c.args.form (refused_is _ _ _ c.in-Err-Refused.field-0-is (rw (c.theory.ensures.theory) at c.in-Err-Refused.ensures.refused))
