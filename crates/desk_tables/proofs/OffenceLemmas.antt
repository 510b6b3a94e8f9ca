-- Rows that break dependencies end a command.
use Rattle.std.proofs.Common.{◌≡◌, ◌↔◌, List, [], subst}
use Rattle.dep_model.specs.Tuples.{Relation}
use Rattle.schema_model.specs.Schemas.{LegalFor, Schema, theory_of, width_of}
use Rattle.legality.specs.declared.offence.Offence.{Offence}
use Rattle.legality.specs.Offences.{OffencesOf}
use Rattle.desk_responses.specs.ResponseValues.{Says}
use Rattle.desk_responses.specs.Responses.{ExitsAs, response_value}
use Rattle.desk_responses.specs.declared.response.EarlyExit.{EarlyExit}
use Rattle.desk_responses.specs.declared.status.Status.TheVariants.{No}
use Rattle.desk_tables.specs.Legality.{OffenceStops, offences_text}

-- the offences that were found are printed
pub offences_stop : (schema : Schema) (rows : Relation) (found printed : List Offence) (exit : EarlyExit) → (found ≡ [] → ⊥)
    → (found ≡ []) ↔ LegalFor schema rows → OffencesOf (width_of schema) (theory_of schema) rows found → printed ≡ found
    → ExitsAs (Says No (offences_text schema printed)) exit → ExitsAs (OffenceStops schema rows) exit
offences_stop schema rows found printed exit any legal are same says = λ response is. (
  (λ obeyed. any (legal.1 obeyed)),
  (
    found,
    are,
    subst (λ (os : List Offence). Says No (offences_text schema os) (response_value response)) same (says response is),
  ),
)
