-- Why the keys of a scheme are not listed is what the command says.
use Rattle.std.proofs.Common.{inl, inr, subst}
use Rattle.attr_sets.specs.Sets.{attributes}
use Rattle.dep_model.specs.declared.failure.Failure.{Failure}
use Rattle.dep_model.specs.declared.failure.Failure.TheVariants as failed
use Rattle.key_listing.specs.declared.refusal.SchemeKeyRefusal.{SchemeKeyRefusal}
use Rattle.key_listing.specs.Refusals.{IsRefusedFor}
use Rattle.schema_model.specs.Schemas.{theory_in}
use Rattle.desk_keys.proofs.scheme_keys.keys_or_stop.Goals as goal

pub returns-in-Err-Refused-TooManyKeys-clause-ends : goal.returns-in-Err-Refused-TooManyKeys-clause-ends
returns-in-Err-Refused-TooManyKeys-clause-ends c = λ response is.
    let s = c.args.schema.now in
    let x = attributes c.args.scheme in
    let listed = subst (λ (failure : Failure SchemeKeyRefusal). IsRefusedFor (theory_in s) x failure) c.in-Err-Refused-TooManyKeys.field-0-is (rw (c.theory.ensures.theory) at c.in-Err-Refused-TooManyKeys.ensures.refused) in
    let many = subst (λ (refusal : SchemeKeyRefusal). IsRefusedFor (theory_in s) x (failed.Refused refusal)) c.in-Err-Refused-TooManyKeys.field-0-0-is listed in
    inr (many.0, (_, many.1, c.too_many_scheme_keys_exit.ensures.says response is))

pub returns-in-Err-Refused-TooWide-clause-ends : goal.returns-in-Err-Refused-TooWide-clause-ends
returns-in-Err-Refused-TooWide-clause-ends c = λ response is.
    let s = c.args.schema.now in
    let x = attributes c.args.scheme in
    let listed = subst (λ (failure : Failure SchemeKeyRefusal). IsRefusedFor (theory_in s) x failure) c.in-Err-Refused-TooWide.field-0-is (rw (c.theory.ensures.theory) at c.in-Err-Refused-TooWide.ensures.refused) in
    let wide = subst (λ (refusal : SchemeKeyRefusal). IsRefusedFor (theory_in s) x (failed.Refused refusal)) c.in-Err-Refused-TooWide.field-0-0-is listed in
    inl (wide, c.too_wide_exit.ensures.says response is)
