-- Whether a set is a key of the universe by all dependencies, and why: for `check key`.
use Rattle.std.specs.Prelude.{◌≡◌, ◌⊎◌, ◌↔◌, ℕ, true, List, ◌++◌, codes}
use Rattle.std.specs.List.{flat_map}
use Rattle.attr_sets.specs.Attributes.{Attributes, only, difference}
use Rattle.attr_sets.specs.Sets.{attributes}
use Rattle.closure_steps.specs.Without.{AreClosuresWithout}
use Rattle.closure_steps.specs.declared.without.Without.{Without}
use Rattle.csv_text.specs.Rows.{rows_text}
use Rattle.dep_basis.specs.Decisions.{IsBrokenBy}
use Rattle.dep_model.specs.Dependencies.{fd}
use Rattle.dep_model.specs.Keys.{InClosure, IsSuperkey, IsKey, IsGreedyKey}
use Rattle.schema_model.specs.Schemas.{names_of, width_of, universe_of, theory_of, LegalFor}
use Rattle.dep_model.specs.Tuples.{Relation}
use Rattle.schema_model.specs.Schemas.{Schema}
use Rattle.schema_printer.specs.Printing.{set_text}
use Rattle.typed_rows.specs.Shown.{shown_tuples}
use Rattle.counterexample_laws.specs.Counterexamples.{IsCounterexample}
use Rattle.schema_printer.specs.Spelling.{printed_names_of}
use Rattle.desk_responses.specs.declared.status.Status.TheVariants.{Yes, No}
use Rattle.desk_responses.specs.ResponseValues.{Allowed, Says}
use Rattle.desk_arguments.specs.Goals.{WithSet}
use Rattle.desk_texts.specs.Texts.{line, set_line}

-- ---- texts
-- the closed set of a key without one of its attributes
abbrev pub without_text : List (List ℕ) → Without → List ℕ
without_text names without =
    set_line (codes "without " ++ set_text names (only without.attribute) ++ codes ": closure ") names
    (attributes without.closed)

-- a key, and what it determines without each of its attributes
abbrev pub is_key_text : List (List ℕ) → Attributes → List Without → List ℕ
is_key_text names x found =
    line (set_text names x ++ codes " is a key") ++ flat_map (without_text names) found

-- a set that does not determine some attributes, and two tuples that show it
abbrev pub no_superkey_text : Schema → Attributes → Attributes → Relation → List ℕ
no_superkey_text schema x missing tuples =
    set_line (set_text (printed_names_of schema) x ++ codes " is no key: it does not determine ")
    (printed_names_of schema) missing
    ++ line (codes "shown by") ++ rows_text (names_of schema) tuples

-- a set with a key within it
abbrev pub key_within_text : List (List ℕ) → Attributes → Attributes → List ℕ
key_within_text names x key =
    line (set_text names x ++ codes " is no key: " ++ set_text names key ++ codes " is one within it")

-- ---- answers
-- a text that says that a set is a key, and what it determines without each of its attributes
pub record IsKeyText (schema : Schema) (x : Attributes) (text : List ℕ) : Type 0 where
  pub found : List Without
  pub without : AreClosuresWithout (width_of schema) (theory_of schema) x found
  pub reads : text ≡ is_key_text (printed_names_of schema) x found

-- yes: a key
pub record IsKeyShown (schema : Schema) (x : Attributes) (text : List ℕ) : Type 0 where
  pub is_key : IsKey (width_of schema) (theory_of schema) (universe_of schema) x
  pub shown : IsKeyText schema x text

-- no: the set does not determine the universe: two tuples are, as they are shown, a legal counterexample to that
pub record IsNoSuperkey (schema : Schema) (x : Attributes) (text : List ℕ) : Type 0 where
  pub no_superkey : IsSuperkey (width_of schema) (theory_of schema) (universe_of schema) x → ⊥
  pub closed : Attributes
  pub is_closure : (a : ℕ) → (closed a ≡ true) ↔ InClosure (width_of schema) (theory_of schema) x a
  pub agreement : Attributes
  pub broken : IsBrokenBy (width_of schema) (theory_of schema) (fd x (universe_of schema)) agreement
  pub shown : IsCounterexample schema (LegalFor schema) (fd x (universe_of schema)) (shown_tuples schema agreement)
  pub reads : text ≡ no_superkey_text schema x (difference (universe_of schema) closed)
      (shown_tuples schema agreement)

-- no: it determines the universe, and so does a key within it, the one that is left where its
-- attributes are tried from the last to the first
pub record HasKeyWithin (schema : Schema) (x : Attributes) (text : List ℕ) : Type 0 where
  pub superkey : IsSuperkey (width_of schema) (theory_of schema) (universe_of schema) x
  pub no_key : IsKey (width_of schema) (theory_of schema) (universe_of schema) x → ⊥
  pub key : Attributes
  pub greedy : IsGreedyKey (width_of schema) (theory_of schema) x key
  pub is_key : IsKey (width_of schema) (theory_of schema) (universe_of schema) key
  pub reads : text ≡ key_within_text (printed_names_of schema) x key

-- yes exactly where the set is a key
abbrev pub TestsKey : Schema → Attributes → Allowed
TestsKey schema x response =
    (text : List ℕ) × ((IsKeyShown schema x text × Says Yes text response)
    ⊎ ((IsNoSuperkey schema x text ⊎ HasKeyWithin schema x text) × Says No text response))

-- the same of a set that is given as a text
abbrev pub ChecksKey : Schema → List ℕ → Allowed
ChecksKey schema set = WithSet schema set (TestsKey schema)
