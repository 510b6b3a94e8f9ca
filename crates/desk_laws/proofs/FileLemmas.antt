-- The file of a schema, where the answer to it is yes, and where it is the same later.
use Rattle.std.proofs.Common.{◌≡◌, ℕ, List, inl, inr, ◌∙◌}
use Rattle.schema_model.specs.Schemas.{Schema}
use Rattle.desk_inputs.specs.FileKinds.{IsFile, WithFile}
use Rattle.desk_inputs.specs.Inputs.{schema_file}
use Rattle.desk_inputs.specs.Readings.{known_files}
use Rattle.desk_outside.specs.Files.{Files, bytes_of_file}
use Rattle.desk_responses.specs.ResponseValues.{Allowed, ResponseValue}
use Rattle.desk_responses.specs.declared.status.Status.TheVariants.{Yes}
use Rattle.desk_laws.proofs.StopLemmas.{schema_says}

-- a yes is given of the schema that is read
pub given_there : (files : Files) (name : List ℕ) (gives : Schema → Allowed) (response : ResponseValue) → response.status ≡ Yes
    → WithFile schema_file (known_files files) name gives response
    → (s : Schema) × IsFile schema_file (known_files files) name s × gives s response
given_there files name gives response says_yes (inl exit) =
    absurd (schema_says (known_files files) name response says_yes exit)
given_there files name gives response says_yes (inr found) = found

-- the same schema is read later
pub held_again : (before after : Files) (name : List ℕ) (s : Schema) → IsFile schema_file (known_files before) name s
    → bytes_of_file after name ≡ bytes_of_file before name → IsFile schema_file (known_files after) name s
held_again before after name s held same = record {
  bytes = held.bytes;
  content = (same ∙ held.content.0, held.content.1);
  means = held.means;
}
