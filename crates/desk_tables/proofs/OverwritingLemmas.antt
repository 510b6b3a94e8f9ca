-- Files that would be written over.
use Rattle.std.proofs.Common.{ℕ, List, ◌∷◌, Result}
use Rattle.table_names.specs.TableNames.{GivenNames}
use Rattle.desk_responses.proofs.StepLemmas.{Unless-passed}
use Rattle.desk_responses.specs.ResponseValues.{Allowed}
use Rattle.desk_responses.specs.Responses.{RespondsAs}
use Rattle.desk_responses.specs.declared.response.EarlyExit.{EarlyExit}
use Rattle.desk_responses.specs.declared.response.Response.{Response}
use Rattle.desk_tables.specs.Overwriting.{IsTableFile, KeepsFiles, OverStops}

-- a file that stays is passed
pub file_kept : (names : GivenNames) (tables : ℕ) (file : List ℕ) (files : List (List ℕ)) (rest : Allowed) (result : Result Response EarlyExit)
    → (IsTableFile names tables file → ⊥) → RespondsAs (KeepsFiles names tables files rest) result → RespondsAs (KeepsFiles names tables (file ∷ files) rest) result
file_kept names tables file files rest result stays goes =
    Unless-passed (OverStops names tables file) (IsTableFile names tables file → ⊥) (KeepsFiles names tables files rest) result stays goes
