-- How names are printed: for the texts of sets, dependencies and schemas (`Printing`), and for every text
-- that names attributes.
use Rattle.std.specs.Prelude.{ℕ, Bool, ◌&&◌, ◌==◌, not, if◌then◌else◌, List, [], ◌∷◌, ◌++◌, map, codes}
use Rattle.std.specs.List.{flat_map, list_any}
use Rattle.schema_model.specs.declared.naming.Naming.{Naming}
use Rattle.schema_model.specs.declared.naming.Naming.TheVariants.{Bare, Any}
use Rattle.schema_model.specs.Schemas.{Schema}
use Rattle.schema_model.specs.Names.{is_bare_name, same_name, quoted}
use Rattle.schema_model.specs.Schemas.{naming_of, names_of}

-- the words that are quoted where they are names, so that they can be words of a schema text
abbrev pub schema_words : List (List ℕ)
schema_words =
    codes "attributes" ∷ codes "scheme" ∷ codes "version" ∷ codes "integer" ∷ codes "text" ∷ codes "date"
    ∷ codes "timestamp" ∷ codes "decimal" ∷ codes "uuid" ∷ codes "other" ∷ codes "nullable" ∷ []

-- whether it is one of them, ASCII case aside
unfoldable pub is_schema_word : List ℕ → Bool
is_schema_word name = list_any (same_name name) schema_words

-- a name as it is printed: bare where it is a bare name and no word of a schema text, else quoted
unfoldable pub spelling : Naming → List ℕ → List ℕ
spelling Bare name = name
spelling Any name = if is_bare_name name && not (is_schema_word name) then name else quoted name

-- the names of a schema as they are printed
unfoldable pub printed_names_of : Schema → List (List ℕ)
printed_names_of s = map (spelling (naming_of s)) (names_of s)
