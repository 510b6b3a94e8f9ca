-- What is left to prove of `write_tables`: its clause, where a value may be missing and where none is.
use Rattle.std.proofs.Common.{inl, inr}
use Rattle.desk_designs.proofs.MissingLemmas.{readable_plan}
use Rattle.desk_designs.proofs.designs.write_tables.Goals as goal

pub returns-in-Err : goal.returns-in-Err
returns-in-Err c = record { response = λ names plan sound response is. inl (c.in-Err.ensures.exit names plan sound response is) }

pub returns-in_ok-tables_response-in-Ok : goal.returns-in_ok-tables_response-in-Ok
returns-in_ok-tables_response-in-Ok c = record {
  response = λ names plan sound. inr (
    readable_plan c.args.schema.now names plan c.args.tables.now sound c.in-Ok.ensures.unhindered,
    (c.args.tables.now, sound, c.in_ok-tables_response-in-Ok.ensures.response),
  );
}
