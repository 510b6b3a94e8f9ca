-- What is left to prove of `explain_keys`: what `keys_exit` requires, and that a refusal is the command's.
use Rattle.std.proofs.Common.{subst}
use Rattle.dep_model.specs.declared.failure.Failure.{Failure}
use Rattle.schema_model.specs.Schemas.{theory_in}
use Rattle.key_listing.specs.declared.refusal.KeyRefusal.{KeyRefusal}
use Rattle.key_listing.specs.Refusals.{IsRefusedListing}
use Rattle.desk_responses.specs.Responses.{response_value}
use Rattle.desk_keys.proofs.RefusalLemmas.{explains_refusal}
use Rattle.desk_keys.proofs.key_reasons.explain_keys.Goals as goal

pub keys_exit-requires : goal.keys_exit-requires
keys_exit-requires c = record {
  refused = subst (λ (failure : Failure KeyRefusal). IsRefusedListing (theory_in c.args.schema.now) failure) c.in-Err-Refused.field-0-is (rw (c.theory.ensures.theory) at c.in-Err-Refused.ensures.refused);
}

pub returns-in-Err-Refused : goal.returns-in-Err-Refused
returns-in-Err-Refused c = record {
  response = λ response is. explains_refusal c.args.schema.now (response_value response) (c.keys_exit.ensures.exits response is);
}
