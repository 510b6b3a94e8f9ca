-- No way to stop says yes, and where a text has its meaning nothing stops.
use Rattle.std.proofs.Common.{◌≡◌, ◌≤◌, ℕ, List, length, Some, inl, inr, sym, ap, ◌∙◌, subst, arith, Option}
use Rattle.std.specs.Prelude.{IsSomeAnd, ◌<◌}
use Rattle.schema_model.specs.Schemas.{Schema}
use Rattle.implication_laws.proofs.ImplyingLaws.{refused_not_yes}
use Rattle.desk_outside.specs.Files.{Files, bytes_of_file}
use Rattle.schema_reader.specs.declared.text.TheConstants.{MOST_TEXT_BYTES}
use Rattle.desk_responses.specs.declared.status.Status.TheVariants.{Yes, CannotRead}
use Rattle.desk_inputs.specs.Readings.{Reading, known_files}
use Rattle.desk_responses.specs.ResponseValues.{Allowed, ResponseValue, With}
use Rattle.desk_inputs.specs.FileKinds.{FileStops, LoadStops}
use Rattle.desk_inputs.specs.Inputs.{schema_file}
use Rattle.desk_arguments.specs.Goals.{GoalStops}

-- ---- no way to stop says yes
unread_says : (response : ResponseValue) → response.status ≡ Yes → response.status ≡ CannotRead → ⊥
unread_says response says_yes is = cc

pub status_is : (response wanted : ResponseValue) → response ≡ wanted → response.status ≡ wanted.status
status_is response wanted is = ap (λ (a : ResponseValue). a.status) is

pub file_says : (r : Reading) (name : List ℕ) (limit : ℕ) (response : ResponseValue) → response.status ≡ Yes → LoadStops r name limit response → ⊥
file_says r name limit response says_yes (inl exit) = unread_says response says_yes (status_is response _ exit.1)
file_says r name limit response says_yes (inr exit) = refused_not_yes response says_yes (status_is response _ exit.1)

pub schema_says : (r : Reading) (name : List ℕ) (response : ResponseValue) → response.status ≡ Yes → FileStops schema_file r name response → ⊥
schema_says r name response says_yes (inl exit) = file_says r name MOST_TEXT_BYTES response says_yes exit
schema_says r name response says_yes (inr exit) = refused_not_yes response says_yes (status_is response _ exit.2)

pub goal_says : (s : Schema) (goal : List ℕ) (response : ResponseValue) → response.status ≡ Yes → GoalStops s goal response → ⊥
goal_says s goal response says_yes (inl exit) = refused_not_yes response says_yes (status_is response _ exit.1)
goal_says s goal response says_yes (inr exit) = refused_not_yes response says_yes (status_is response _ exit.2)

-- ---- what has a meaning does not stop
-- a step that does not stop, where this alone is found, goes on with it
pub With-goes : {T : Type 0} (stops : Allowed) (is : T → Type 0) (rest : T → Allowed) (x : T) (response : ResponseValue)
    → (stops response → ⊥) → ((y : T) → is y → y ≡ x) → With stops is rest response → rest x response
With-goes stops is rest x response goes one (inl halted) = absurd (goes halted)
With-goes {T} stops is rest x response goes one (inr (y, found, rests)) =
    subst (λ (z : T). rest z response) (one y found) rests

-- a file of this name has one content
pub one_content : (files : Files) (name first second : List ℕ) → bytes_of_file files name ≡ Some first → bytes_of_file files name ≡ Some second → first ≡ second
one_content files name first second here there = let same : Some first ≡ Some second = sym here ∙ there in cc

pub file_goes : (files : Files) (name bytes : List ℕ) (limit : ℕ) (response : ResponseValue) → bytes_of_file files name ≡ Some bytes → length bytes ≤ limit
    → LoadStops (known_files files) name limit response → ⊥
file_goes files name bytes limit response has within_limit (inl ((inl fails, last), said)) = absurd fails
file_goes files name bytes limit response has within_limit (inl ((inr none, last), said)) = cc
file_goes files name bytes limit response has within_limit (inr exit) =
    let of : Option (List ℕ) → Type 0 = λ o. IsSomeAnd o (λ bytes. limit < length bytes) in
    let long : limit < length bytes = subst of has exit.0.1 in omega (arith, within_limit, long)
