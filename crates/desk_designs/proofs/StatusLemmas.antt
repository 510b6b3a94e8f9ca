-- A refusal is no yes.
use Rattle.std.proofs.Common.{◌≡◌, ℕ, Bool, true, false, List, sym, ap, ◌∙◌}
use Rattle.std.proofs.lemmas.Bool.{false≢true}
use Rattle.desk_responses.specs.ResponseValues.{ResponseValue, Says}
use Rattle.desk_responses.specs.declared.status.Status.{Status}
use Rattle.desk_responses.specs.declared.status.Status.TheVariants.{Yes, No, Refused, CannotRead, CannotWrite, DestinationFailed}

is_yes : Status → Bool
is_yes Yes = true
is_yes No = false
is_yes Refused = false
is_yes CannotRead = false
is_yes CannotWrite = false
is_yes DestinationFailed = false

pub refused_not_yes : (text : List ℕ) (response : ResponseValue) → Says Refused text response → response.status ≡ Yes → ⊥
unfolding is_yes
refused_not_yes text response says agrees =
    false≢true (sym (ap (λ (r : ResponseValue). is_yes r.status) says) ∙ ap is_yes agrees)
