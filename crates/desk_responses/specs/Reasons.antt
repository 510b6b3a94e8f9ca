-- The answer of a command with reasons above its text: for `explain`.
use Rattle.std.specs.Prelude.{◌≡◌, ◌⊎◌, ℕ, List, ◌++◌}
use Rattle.desk_responses.specs.declared.status.Status.TheVariants.{Yes}
use Rattle.desk_responses.specs.ResponseValues.{ResponseValue, Allowed}

-- an answer below more text
abbrev pub below_text : List ℕ → ResponseValue → ResponseValue
below_text above response =
    record response { text = above ++ response.text }

-- the answer of a command, explained: where it is yes, with reasons above its text, else as it is
abbrev pub Explained : (List ℕ → Type 0) → Allowed → Allowed
Explained AreReasons answers response =
    (plain : ResponseValue) × answers plain
    × (((plain.status ≡ Yes)
    × ((reasons : List ℕ) × AreReasons reasons × (response ≡ below_text reasons plain)))
    ⊎ ((plain.status ≡ Yes → ⊥) × (response ≡ plain)))
