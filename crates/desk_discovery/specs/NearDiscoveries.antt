-- The functional dependencies that the rows of a file nearly obey: for `discover near`.
use Rattle.std.specs.Prelude.{◌⊎◌, ◌==◌, ℕ, List, [], ◌∷◌, ◌++◌, codes, length, map, if◌then◌else◌}
use Rattle.std.specs.Fmt.{decimal}
use Rattle.dep_model.specs.Dependencies.{Dependency}
use Rattle.schema_model.specs.declared.naming.Naming.{Naming}
use Rattle.headed_rows.specs.Headings.{HeadedRows}
use Rattle.headed_rows.specs.Headers.{naming_under}
use Rattle.near_rules.specs.NearRules.{AreNearRules, IsFirstExceeded, IsTriedWhole}
use Rattle.near_rules.specs.declared.found.TooManyTried.{TooManyTried}
use Rattle.schema_printer.specs.Printing.{dependency_text, lines_text}
use Rattle.schema_printer.specs.Spelling.{spelling}
use Rattle.desk_texts.specs.Texts.{overlong_text}
use Rattle.desk_responses.specs.declared.status.Status.TheVariants.{Yes, Refused}
use Rattle.desk_responses.specs.ResponseValues.{Allowed, Says}
use Rattle.desk_discovery.specs.Discoveries.{column_lines, left_sides_text}

-- what stands after a dependency: how many rows must change, where some must
abbrev pub change_text : ℕ → List ℕ
change_text error = if error == 0 then [] else codes " # " ++ decimal error ++ codes " must change"

-- a line for each dependency, with its error
abbrev pub near_lines : List (List ℕ) → List Dependency → List ℕ → List (List ℕ)
near_lines printed [] errors = []
near_lines printed (d ∷ ds) [] = []
near_lines printed (d ∷ ds) (error ∷ errors) =
    (dependency_text printed d ++ change_text error) ∷ near_lines printed ds errors

-- the lines that declare text columns of these names as they are printed, and these
abbrev pub near_columns_text : Naming → List (List ℕ) → List Dependency → List ℕ → List ℕ
near_columns_text naming printed ds errors = lines_text (column_lines naming printed ++ near_lines printed ds errors)

-- names, and dependencies over them with their errors, after a comment where they are too many for a schema file
abbrev pub near_text : List (List ℕ) → List Dependency → List ℕ → List ℕ
near_text names ds errors =
    overlong_text ds ++ near_columns_text (naming_under names) (map (spelling (naming_under names)) names) ds errors

-- yes, where for no column too many sets must be tried, with exactly the minimal dependencies that nearly hold, in
-- order, each with its error
abbrev pub GivesNearRules : ℕ → ℕ → HeadedRows → Allowed
GivesNearRules limit most headed response =
    (ds : List Dependency) × (errors : List ℕ)
    × AreNearRules (length headed.names) most limit headed.rows ds errors
    × IsTriedWhole (length headed.names) most limit headed.rows
    × Says Yes (near_text headed.names ds errors) response

-- refused, with the name of the file and of the first column for which too many sets must be tried
abbrev pub RefusesNearRules : ℕ → ℕ → List ℕ → HeadedRows → Allowed
RefusesNearRules limit most file headed response =
    (refusal : TooManyTried)
    × IsFirstExceeded (length headed.names) most limit headed.rows refusal
    × Says Refused (left_sides_text file headed.names refusal.right) response

-- these of a file of this name, or that refusal
abbrev pub FindsNearRules : ℕ → ℕ → List ℕ → HeadedRows → Allowed
FindsNearRules limit most file headed response =
    GivesNearRules limit most headed response ⊎ RefusesNearRules limit most file headed response
