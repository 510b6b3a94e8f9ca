-- What is left to prove of `find_keys`: its clause, where the keys are listed and where they are refused.
use Rattle.std.proofs.Common.{subst}
use Rattle.dep_model.specs.declared.failure.Failure.{Failure}
use Rattle.key_listing.specs.declared.refusal.KeyRefusal.{KeyRefusal}
use Rattle.key_listing.specs.Refusals.{IsRefusedListing}
use Rattle.schema_model.specs.Schemas.{theory_in}
use Rattle.desk_reports.proofs.found.find_keys.Goals as goal

pub returns-in-Ok : goal.returns-in-Ok
returns-in-Ok c = record {
  found = (
    rw (c.theory.ensures.theory) at c.in-Ok.ensures.keys,
    c.in-Ok.ensures.within_limit,
    rw (c.theory.ensures.theory) at c.in-Ok.ensures.not_too_wide,
  );
}

pub returns-in-Err-Refused : goal.returns-in-Err-Refused
returns-in-Err-Refused c = record {
  found = subst (λ (failure : Failure KeyRefusal). IsRefusedListing (theory_in c.args.schema.now) failure) c.in-Err-Refused.field-0-is
      (rw (c.theory.ensures.theory) at c.in-Err-Refused.ensures.refused);
}
