-- What is left to prove of `list_keys`: what it answers, case by case and what `sets_response`
-- requires.
use Rattle.std.proofs.Common.{◌≡◌, List, sym, subst, ap, ◌∙◌, inl, inr}
use Rattle.std.specs.Prelude.{All}
use Rattle.std.proofs.lemmas.List.Elements.{All-weaker}
use Rattle.attr_sets.specs.declared.set.AttrSet.{AttrSet}
use Rattle.attr_sets.specs.Attributes.{Attributes, IsSubset, below}
use Rattle.attr_sets.specs.Sets.{attributes}
use Rattle.dep_model.specs.Keys.{IsKey}
use Rattle.dep_model.specs.declared.failure.Failure.{Failure}
use Rattle.dep_model.specs.declared.failure.Failure.TheVariants as failed
use Rattle.schema_model.specs.Schemas.{width_of, theory_of, universe_of, theory_in}
use Rattle.schema_printer.specs.Spelling.{printed_names_of}
use Rattle.key_listing.specs.declared.refusal.KeyRefusal.{KeyRefusal}
use Rattle.key_listing.specs.Refusals.{IsRefusedListing}
use Rattle.desk_responses.specs.ResponseValues.{Says}
use Rattle.desk_responses.specs.Lines.{too_wide_text}
use Rattle.desk_responses.specs.Responses.{response_value}
use Rattle.desk_responses.specs.declared.status.Status.TheVariants.{Refused}
use Rattle.desk_keys.proofs.keys.list_keys.Goals as goal

pub sets_response-requires : goal.sets_response-requires
sets_response-requires c =
    let s = c.args.schema.now in
    record {
      within = subst (λ (sets : List AttrSet). All (λ (k : AttrSet). IsSubset (attributes k) (universe_of s)) sets) (sym c.deref.ensures.value)
          (All-weaker (λ (k : AttrSet). IsKey (width_of s) (theory_of s) (universe_of s) (attributes k)) (λ (k : AttrSet). IsSubset (attributes k) (universe_of s))
          (λ k key. key.superkey.within.0) c.in-Ok.keys.items (rw (c.theory.ensures.theory) at c.in-Ok.ensures.keys).each);
    }

pub keys_exit-requires : goal.keys_exit-requires
keys_exit-requires c = record {
  refused = subst (λ (failure : Failure KeyRefusal). IsRefusedListing (theory_in c.args.schema.now) failure) c.in-Err-Refused.field-0-is (rw (c.theory.ensures.theory) at c.in-Err-Refused.ensures.refused);
}
