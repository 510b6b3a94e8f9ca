-- What is said of an attribute of which a value may be missing: for `print_refusal`, and for the answers in
-- which it stands.
use Rattle.std.specs.Prelude.{◌<◌, ℕ, List, [], ◌∷◌, ◌++◌, codes, slice_get, slice_index_or, option_map, unwrap_or}
use Rattle.schema_model.specs.Schemas.{names_of, naming_of}
use Rattle.schema_model.specs.Schemas.{Schema}
use Rattle.ddl_text.specs.declared.table.TableDesign.{TableDesign}
use Rattle.schema_printer.specs.Spelling.{spelling}
use Rattle.missing_values.specs.declared.refusal.MissingRefusal.{MissingRefusal}
use Rattle.missing_values.specs.declared.refusal.MissingRefusal.TheVariants.{InKey, InTwo}

-- the attribute and the tables of a refusal are there
abbrev pub IsWithin : ℕ → ℕ → MissingRefusal → Type 0
IsWithin width tables (InKey a k) = (a < width) × (k < tables)
IsWithin width tables (InTwo a j k) = (a < width) × (j < tables) × (k < tables)

-- that a value of an attribute may be missing
unfoldable pub missing_text : Schema → ℕ → List ℕ
missing_text s a =
    codes "refused: " ++ spelling (naming_of s) (slice_index_or (names_of s) a []) ++ codes " may be missing and is in "

abbrev pub in_key_text : Schema → ℕ → List ℕ → List ℕ
in_key_text s a table = missing_text s a ++ codes "the key of " ++ table ++ 10 ∷ []

abbrev pub in_two_text : Schema → ℕ → List ℕ → List ℕ → List ℕ
in_two_text s a earlier table = missing_text s a ++ earlier ++ codes " and " ++ table ++ 10 ∷ []

-- the name of the table at a position
abbrev pub name_at : List TableDesign → ℕ → List ℕ
name_at tables k = unwrap_or (option_map (λ table. table.name) (slice_get tables k)) []

-- the line of a refusal
abbrev pub refusal_text : Schema → List TableDesign → MissingRefusal → List ℕ
refusal_text s tables (InKey a k) = in_key_text s a (name_at tables k)
refusal_text s tables (InTwo a j k) = in_two_text s a (name_at tables j) (name_at tables k)
