-- What the keys of a schema have in common, and what is in none, as text: for `explain keys`.
use Rattle.std.specs.Prelude.{◌≡◌, ◌↔◌, ℕ, ◌<◌, true, List, ◌++◌, codes}
use Rattle.attr_sets.specs.Attributes.{Attributes}
use Rattle.dep_model.specs.Keys.{IsKey, IsPrime}
use Rattle.schema_model.specs.Schemas.{width_of, theory_of, universe_of}
use Rattle.schema_model.specs.Schemas.{Schema}
use Rattle.schema_printer.specs.Spelling.{printed_names_of}
use Rattle.desk_responses.specs.Reasons.{Explained}
use Rattle.desk_responses.specs.ResponseValues.{Allowed}
use Rattle.desk_keys.specs.Keys.{ListsKeys}
use Rattle.desk_texts.specs.Texts.{set_line}

-- an attribute stands in every key of the universe
abbrev pub InEveryKey : Schema → ℕ → Type 0
InEveryKey schema a =
    (a < width_of schema)
    × ((k : Attributes) → IsKey (width_of schema) (theory_of schema) (universe_of schema) k
    → k a ≡ true)

-- an attribute stands in no key of the universe
abbrev pub InNoKey : Schema → ℕ → Type 0
InNoKey schema a = (a < width_of schema) × (IsPrime (width_of schema) (theory_of schema) (universe_of schema) a → ⊥)

-- what is in every key, and then what is in none
pub record AreKeyReasons (schema : Schema) (text : List ℕ) : Type 0 where
  pub common : Attributes
  pub in_every_key : (a : ℕ) → (common a ≡ true) ↔ InEveryKey schema a
  pub absent : Attributes
  pub in_no_key : (a : ℕ) → (absent a ≡ true) ↔ InNoKey schema a
  pub reads : text ≡ set_line (codes "# in every key: ") (printed_names_of schema) common
      ++ set_line (codes "# in no key: ") (printed_names_of schema) absent

-- the keys, below what they have in common and what is in none
abbrev pub ExplainsKeys : Schema → Allowed
ExplainsKeys schema = Explained (AreKeyReasons schema) (ListsKeys schema)
