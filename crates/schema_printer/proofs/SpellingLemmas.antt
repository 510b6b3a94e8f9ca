-- The names of a schema as they are printed, one by one, and those of a schema of bare names.
use Rattle.std.proofs.Common.{◌≡◌, ℕ, List, [], ◌∷◌, ◌++◌, Some, length, map, refl, ap, ◌∙◌}
use Rattle.std.specs.Prelude.{option_map, slice_index_or}
use Rattle.std.specs.List.{slice_get}
use Rattle.std.proofs.lemmas.Option.{slice_get-map, get_or_from_slice_get}
use Rattle.std.proofs.lemmas.List.{length-map}
use Rattle.schema_model.specs.declared.column_type.ColumnType.{ColumnType}
use Rattle.schema_model.specs.declared.column_type.ColumnType.TheVariants.{Text}
use Rattle.schema_model.specs.declared.naming.Naming.{Naming}
use Rattle.schema_model.specs.declared.naming.Naming.TheVariants.{Bare}
use Rattle.schema_model.specs.Schemas.{Schema}
use Rattle.dep_model.specs.Dependencies.{Dependency}
use Rattle.schema_model.specs.Schemas.{naming_of, names_of, width_of, types_of, nullable_of}
use Rattle.schema_printer.specs.Printing.{schema_text, schema_lines, declaring_lines, declared_text, dependency_text, lines_text}
use Rattle.schema_printer.specs.Spelling.{spelling, printed_names_of}

-- the printed name of an attribute
pub printed_name : (s : Schema) (k : ℕ) (name : List ℕ) → slice_get (names_of s) k ≡ Some name
    → slice_get (printed_names_of s) k ≡ Some (spelling (naming_of s) name)
unfolding printed_names_of
printed_name s k name named =
    slice_get-map (spelling (naming_of s)) (names_of s) k ∙ ap (option_map (spelling (naming_of s))) named

spelled_bare : (names : List (List ℕ)) → map (spelling Bare) names ≡ names
unfolding spelling
spelled_bare [] = refl
spelled_bare (name ∷ names) = ap (λ (rest : List (List ℕ)). name ∷ rest) (spelled_bare names)

pub printed_bare : (s : Schema) → naming_of s ≡ Bare → printed_names_of s ≡ names_of s
unfolding printed_names_of
printed_bare s bare = ap (λ (naming : Naming). map (spelling naming) (names_of s)) bare ∙ spelled_bare (names_of s)

pub schema_bare : (s : Schema) (deps : List Dependency) → naming_of s ≡ Bare
    → schema_text s deps ≡ declared_text (types_of s) (names_of s) deps
unfolding schema_text schema_lines declared_text
schema_bare s deps bare =
    ap (λ (naming : Naming). lines_text (schema_lines naming (types_of s) (printed_names_of s) (nullable_of s)
    ++ map (dependency_text (printed_names_of s)) deps)) bare
    ∙ ap (λ (names : List (List ℕ)). lines_text (declaring_lines (types_of s) names ++ map (dependency_text names) deps)) (printed_bare s bare)

pub length_printed : (s : Schema) → length (printed_names_of s) ≡ width_of s
unfolding printed_names_of
length_printed s = length-map (names_of s) (spelling (naming_of s))

-- the printed name of an attribute, and the type of its column, as elements of their lists
pub printed_is : (s : Schema) (k : ℕ) (name : List ℕ) → slice_get (names_of s) k ≡ Some name
    → slice_index_or (printed_names_of s) k [] ≡ spelling (naming_of s) name
printed_is s k name named = get_or_from_slice_get (printed_names_of s) k (spelling (naming_of s) name) [] (printed_name s k name named)

pub type_is : (s : Schema) (k : ℕ) (column : ColumnType) → slice_get (types_of s) k ≡ Some column
    → slice_index_or (types_of s) k Text ≡ column
type_is s k column typed = get_or_from_slice_get (types_of s) k column Text typed
