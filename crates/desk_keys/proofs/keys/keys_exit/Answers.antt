-- What is left to prove of `keys_exit`: what it answers, case by case.
use Rattle.std.proofs.Common.{◌≡◌, subst, ap, ◌∙◌, inl, inr}
use Rattle.attr_sets.specs.Attributes.{Attributes, below}
use Rattle.attr_sets.specs.Sets.{attributes}
use Rattle.dep_model.specs.declared.failure.Failure.TheVariants as failed
use Rattle.schema_model.specs.Schemas.{universe_of, theory_in}
use Rattle.schema_printer.specs.Spelling.{printed_names_of}
use Rattle.key_listing.specs.declared.refusal.KeyRefusal.{KeyRefusal}
use Rattle.key_listing.specs.Refusals.{IsRefusedListing}
use Rattle.desk_responses.specs.ResponseValues.{Says}
use Rattle.desk_responses.specs.Lines.{too_wide_text}
use Rattle.desk_responses.specs.Responses.{response_value}
use Rattle.desk_responses.specs.declared.status.Status.TheVariants.{Refused}
use Rattle.desk_keys.proofs.keys.keys_exit.Goals as goal

pub returns-in-TooWide : goal.returns-in-TooWide
returns-in-TooWide c =
    let s = c.args.schema.now in
    let all : attributes c.full.result ≡ universe_of s = c.full.ensures.members ∙ ap below c.width.ensures.count in
    let wide = subst (λ (refusal : KeyRefusal). IsRefusedListing (theory_in s) (failed.Refused refusal)) c.in-TooWide.is c.requires.refused in
    record {
      exits = λ response is. inl (wide, subst (λ (x : Attributes). Says Refused (too_wide_text (printed_names_of s) x) (response_value response)) all (c.too_wide_exit.ensures.says response is));
    }

pub returns-in-TooManyKeys : goal.returns-in-TooManyKeys
returns-in-TooManyKeys c =
    let s = c.args.schema.now in
    let many = subst (λ (refusal : KeyRefusal). IsRefusedListing (theory_in s) (failed.Refused refusal)) c.in-TooManyKeys.is c.requires.refused in
    record { exits = λ response is. inr (many.0, (_, many.1), c.too_many_keys_exit.ensures.says response is) }
