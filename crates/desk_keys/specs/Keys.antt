-- The keys of a schema, and of the schemes of a plan: for `keys` and `keys plan`.
use Rattle.std.specs.Prelude.{◌≡◌, ◌⊎◌, ℕ, ◌≤◌, List, ◌++◌, length, codes, map, All}
use Rattle.std.specs.List.{flat_map}
use Rattle.attr_sets.specs.Attributes.{Attributes}
use Rattle.attr_sets.specs.declared.set.AttrSet.{AttrSet}
use Rattle.attr_sets.specs.Sets.{attributes}
use Rattle.schema_model.specs.Schemas.{width_of, theory_of, universe_of, theory_in}
use Rattle.schema_model.specs.Schemas.{Schema}
use Rattle.schema_printer.specs.Printing.{set_text}
use Rattle.schema_printer.specs.Spelling.{printed_names_of}
use Rattle.fd_closure.specs.LeftSides.{IsWideScheme}
use Rattle.key_listing.specs.declared.refusal.TheConstants.{MOST_KEYS}
use Rattle.key_listing.specs.Listing.{AreAllKeys, AreManyKeys}
use Rattle.key_listing.specs.Refusals.{IsTooWide}
use Rattle.desk_responses.specs.declared.status.Status.TheVariants.{Yes, Refused}
use Rattle.desk_responses.specs.ResponseValues.{Allowed, Says, IsFirstFailing}
use Rattle.desk_responses.specs.Lines.{too_wide_text}
use Rattle.desk_texts.specs.Texts.{line, set_line}

-- a line for each set
abbrev pub sets_text : List (List ℕ) → List AttrSet → List ℕ
sets_text names sets = flat_map (λ set. line (set_text names (attributes set))) sets

abbrev pub too_many_keys_text : List ℕ
too_many_keys_text = line (codes "refused: too many keys")

-- the universe has more keys than are listed
abbrev pub HasManyKeys : Schema → Type 0
HasManyKeys schema = (found : List AttrSet)
    × AreManyKeys (width_of schema) (theory_of schema) (universe_of schema) found

-- refused: the universe is too wide to be searched, or has too many keys
abbrev pub RefusesKeys : Schema → Allowed
RefusesKeys schema response =
    (IsTooWide (theory_in schema)
    × Says Refused (too_wide_text (printed_names_of schema) (universe_of schema)) response)
    ⊎ ((IsTooWide (theory_in schema) → ⊥) × HasManyKeys schema × Says Refused too_many_keys_text response)

-- yes, with exactly all keys of the universe, ascending; refused where the universe is too wide to be
-- searched, or has too many keys
abbrev pub ListsKeys : Schema → Allowed
ListsKeys schema response =
    ((keys : List AttrSet) × AreAllKeys (width_of schema) (theory_of schema) (universe_of schema) keys
    × (length keys ≤ MOST_KEYS) × (IsTooWide (theory_in schema) → ⊥)
    × Says Yes (sets_text (printed_names_of schema) keys) response)
    ⊎ RefusesKeys schema response

-- ---- the schemes of a plan
-- a scheme, and keys of it
pub record KeyedScheme : Type 0 where
  pub scheme : Attributes
  pub keys : List AttrSet

-- a line for each key
abbrev pub keys_text : List (List ℕ) → List AttrSet → List ℕ
keys_text names keys = flat_map (λ key. set_line (codes "key ") names (attributes key)) keys

-- a scheme, and then its keys
abbrev pub keyed_text : List (List ℕ) → KeyedScheme → List ℕ
keyed_text names keyed = set_line (codes "scheme ") names keyed.scheme ++ keys_text names keyed.keys

-- exactly all keys of a scheme, ascending; it is narrow enough to be searched, and has no more than are
-- listed
pub record HasKeys (schema : Schema) (keyed : KeyedScheme) : Type 0 where
  pub narrow : IsWideScheme (theory_of schema) keyed.scheme → ⊥
  pub keys : AreAllKeys (width_of schema) (theory_of schema) keyed.scheme keyed.keys
  pub within_limit : length keyed.keys ≤ MOST_KEYS

-- the keys of a scheme are listed
abbrev pub IsListed : Schema → Attributes → Type 0
IsListed schema scheme = (keys : List AttrSet) × HasKeys schema (record { scheme = scheme; keys = keys })

-- the refusal of a scheme that has more keys than are listed
abbrev pub too_many_scheme_keys_text : List (List ℕ) → Attributes → List ℕ
too_many_scheme_keys_text names scheme = line (codes "refused: too many keys: scheme " ++ set_text names scheme)

-- a scheme ends the command: it is too wide, or narrow with more keys than are listed
abbrev pub EndsKeys : Schema → Attributes → Allowed
EndsKeys schema scheme response =
    (IsWideScheme (theory_of schema) scheme × Says Refused (too_wide_text (printed_names_of schema) scheme) response)
    ⊎ ((IsWideScheme (theory_of schema) scheme → ⊥)
    × ((found : List AttrSet) × AreManyKeys (width_of schema) (theory_of schema) scheme found
    × Says Refused (too_many_scheme_keys_text (printed_names_of schema) scheme) response))

-- yes, with the keys of each scheme in order; refused at the first scheme that ends the command
abbrev pub ListsKeysOfPlan : Schema → List Attributes → Allowed
ListsKeysOfPlan schema plan response =
    ((listed : List KeyedScheme)
    × (map (λ keyed. keyed.scheme) listed ≡ plan) × All (HasKeys schema) listed
    × Says Yes (flat_map (keyed_text (printed_names_of schema)) listed) response)
    ⊎ ((scheme : Attributes) × IsFirstFailing (IsListed schema) plan scheme × EndsKeys schema scheme response)
