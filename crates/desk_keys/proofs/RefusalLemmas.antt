-- Why keys are not listed is explained by itself.
use Rattle.std.proofs.Common.{◌≡◌, Bool, true, false, sym, ap, ◌∙◌, inl, inr, refl}
use Rattle.std.proofs.lemmas.Bool.{false≢true}
use Rattle.schema_model.specs.Schemas.{Schema}
use Rattle.desk_responses.specs.ResponseValues.{ResponseValue}
use Rattle.desk_responses.specs.declared.status.Status.{Status}
use Rattle.desk_responses.specs.declared.status.Status.TheVariants.{Yes, No, Refused, CannotRead, CannotWrite, DestinationFailed}
use Rattle.desk_keys.specs.KeyReasons.{ExplainsKeys}
use Rattle.desk_keys.specs.Keys.{RefusesKeys}

is_yes : Status → Bool
is_yes Yes = true
is_yes No = false
is_yes Refused = false
is_yes CannotRead = false
is_yes CannotWrite = false
is_yes DestinationFailed = false

refused_not_yes : (s : Schema) (response : ResponseValue) → RefusesKeys s response → response.status ≡ Yes → ⊥
unfolding is_yes
refused_not_yes s response (inl (wide, says)) agrees =
    false≢true (sym (ap (λ (r : ResponseValue). is_yes r.status) says) ∙ ap is_yes agrees)
refused_not_yes s response (inr (narrow, many, says)) agrees =
    false≢true (sym (ap (λ (r : ResponseValue). is_yes r.status) says) ∙ ap is_yes agrees)

pub explains_refusal : (s : Schema) (response : ResponseValue) → RefusesKeys s response → ExplainsKeys s response
explains_refusal s response refuses = (response, inr refuses, inr (refused_not_yes s response refuses, refl))
