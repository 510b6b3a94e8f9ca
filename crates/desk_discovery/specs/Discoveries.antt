-- The functional dependencies that the rows of a file obey: for `discover`, and for `discover` with a bound on their
-- left sides.
use Rattle.std.specs.Prelude.{◌≡◌, ◌<◌, ◌⊎◌, List, [], codes, length, map, replicate, slice_index_or, ℕ, ◌++◌, ◌↔◌, ◌∷◌}
use Rattle.attr_sets.specs.Attributes.{Attributes, below, none, IsSubset}
use Rattle.candidate_search.specs.Sides.{IsTooManyLeftSides}
use Rattle.candidate_search.specs.declared.side.TooManyLeftSides.{TooManyLeftSides}
use Rattle.dep_model.specs.Dependencies.{Dependency, fd, ObeysFd}
use Rattle.dep_model.specs.Implication.{Implies}
use Rattle.schema_model.specs.Schemas.{naming_of, names_of, types_of, nullable_of}
use Rattle.dep_model.specs.Tuples.{Relation}
use Rattle.schema_model.specs.declared.column_type.ColumnType.TheVariants.{Text}
use Rattle.schema_model.specs.declared.naming.Naming.{Naming}
use Rattle.schema_model.specs.declared.naming.Naming.TheVariants.{Bare, Any}
use Rattle.schema_model.specs.Schemas.{Schema}
use Rattle.headed_rows.specs.Headings.{HeadedRows}
use Rattle.headed_rows.specs.Headers.{naming_under}
use Rattle.fd_discovery.specs.Minimal.{AreAllMinimal}
use Rattle.fd_search.specs.Small.{AreAllSmall}
use Rattle.schema_printer.specs.Printing.{words_text, dependency_text, lines_text}
use Rattle.schema_printer.specs.Spelling.{spelling}
use Rattle.desk_responses.specs.declared.status.Status.TheVariants.{Yes, Refused}
use Rattle.desk_responses.specs.ResponseValues.{Allowed, Says}
use Rattle.desk_texts.specs.Texts.{line, overlong_text}
use Rattle.desk_discovery.specs.declared.discovering.TheConstants.{WIDEST_TRIED}

-- ---- texts
-- the lines that declare text columns by their names as they are printed: one where the names are bare, else a
-- version line and one
abbrev pub column_lines : Naming → List (List ℕ) → List (List ℕ)
column_lines Bare printed = (codes "attributes" ++ words_text printed) ∷ []
column_lines Any printed = codes "version 3" ∷ (codes "text" ++ words_text printed) ∷ []

-- these lines, and dependencies over the printed names
abbrev pub columns_text : Naming → List (List ℕ) → List Dependency → List ℕ
columns_text naming printed ds = lines_text (column_lines naming printed ++ map (dependency_text printed) ds)

-- names, and dependencies over them, as a schema text: of bare names, where none of them needs quotes
abbrev pub rules_text : List (List ℕ) → List Dependency → List ℕ
rules_text names ds = columns_text (naming_under names) (map (spelling (naming_under names)) names) ds

-- the same, and a comment before more dependencies than a schema file takes
abbrev pub found_text : List (List ℕ) → List Dependency → List ℕ
found_text names ds = overlong_text ds ++ rules_text names ds

-- the name of a column as it is printed
unfoldable pub column_text : List (List ℕ) → ℕ → List ℕ
column_text names a = spelling (naming_under names) (slice_index_or names a [])

-- the refusal of a file that names the column at a position
abbrev pub left_sides_text : List ℕ → List (List ℕ) → ℕ → List ℕ
left_sides_text file names a =
    line (codes "refused: discover 7 at " ++ file ++ codes ": too many left sides for " ++ column_text names a)

-- ---- schemas
-- a schema has text columns of these names, and no value in them may be missing
pub record HasTextColumns (header : List (List ℕ)) (s : Schema) : Type 0 where
  pub naming : naming_of s ≡ naming_under header
  pub names : names_of s ≡ header
  pub types : types_of s ≡ replicate (length header) Text
  pub nullable : nullable_of s ≡ none

-- ---- answers
-- exactly the minimal functional dependencies of rows, in order; they imply those that the rows
-- obey and no other
pub record AreRulesOf (n : ℕ) (rows : Relation) (ds : List Dependency) : Type 0 where
  pub minimal : AreAllMinimal n rows ds
  pub implied : (x y : Attributes) → IsSubset x (below n) → IsSubset y (below n)
      → Implies n ds (fd x y) ↔ ObeysFd x y rows

-- there are more columns than those of which all sets are tried, and some evidence of the rows has too many
-- candidates of at most so many columns for the left sides of a column
pub record HasTooManyLeftSides (most : ℕ) (headed : HeadedRows) (refusal : TooManyLeftSides) : Type 0 where
  pub wide : WIDEST_TRIED < length headed.names
  pub exceeded : IsTooManyLeftSides (length headed.names) most headed.rows refusal

-- yes, with these
abbrev pub GivesRules : HeadedRows → Allowed
GivesRules headed response =
    (ds : List Dependency) × AreRulesOf (length headed.names) headed.rows ds
    × Says Yes (found_text headed.names ds) response

-- refused, with the name of the file and of such a column
abbrev pub RefusesRules : ℕ → List ℕ → HeadedRows → Allowed
RefusesRules most file headed response =
    (refusal : TooManyLeftSides) × HasTooManyLeftSides most headed refusal
    × Says Refused (left_sides_text file headed.names refusal.right) response

-- the rules of a file of this name, or the refusal of a column that has too many left sides
abbrev pub FindsRules : List ℕ → HeadedRows → Allowed
FindsRules file headed response =
    GivesRules headed response ⊎ RefusesRules (length headed.names) file headed response

-- ---- few attributes on the left
-- yes, with exactly the minimal dependencies of at most so many attributes on the left, in order
abbrev pub GivesSmallRules : ℕ → HeadedRows → Allowed
GivesSmallRules most headed response =
    (ds : List Dependency) × AreAllSmall (length headed.names) most headed.rows ds
    × Says Yes (found_text headed.names ds) response

-- these of a file of this name, or the refusal of a column that has too many left sides of so many attributes
abbrev pub FindsSmallRules : ℕ → List ℕ → HeadedRows → Allowed
FindsSmallRules most file headed response =
    GivesSmallRules most headed response ⊎ RefusesRules most file headed response
