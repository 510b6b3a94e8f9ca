-- Whether two schemas say the same of the same attributes: for `check same`.
use Rattle.std.specs.Prelude.{◌≡◌, ◌⊎◌, ℕ, List, ◌++◌, codes, slice_get}
use Rattle.std.specs.List.{flat_map}
use Rattle.attr_sets.specs.Attributes.{IsFirstFrom}
use Rattle.schema_model.specs.Schemas.{deps_of, lines_of}
use Rattle.schema_model.specs.Schemas.{Schema}
use Rattle.schema_printer.specs.Spelling.{printed_names_of}
use Rattle.schema_match.specs.Carried.{IsImpliedBy, HaveSameLegalRelations}
use Rattle.schema_match.specs.Columns.{IsDeclaredBy, SameNames, undeclared_attributes}
use Rattle.schema_match.specs.Differences.{AreDifferences}
use Rattle.desk_responses.specs.declared.status.Status.TheVariants.{Yes, No, Refused}
use Rattle.desk_responses.specs.ResponseValues.{Allowed, Says, Unless}
use Rattle.desk_responses.specs.Lines.{line_number_text, dep_text, attribute_name}
use Rattle.desk_texts.specs.Texts.{line}

-- ---- texts
-- a name that the other file does not declare
abbrev pub not_in_text : List ℕ → List ℕ → List ℕ
not_in_text name other = line (codes "refused: " ++ name ++ codes " is not in " ++ other)

abbrev pub equivalent_text : List ℕ
equivalent_text = line (codes "equivalent")

-- a dependency of a file, with its line, that does not follow from the other
abbrev pub difference_text : Schema → List ℕ → List ℕ → ℕ → List ℕ
difference_text schema file other k =
    line (codes "line " ++ line_number_text (slice_get (lines_of schema) k) ++ codes " of " ++ file
    ++ codes ": " ++ dep_text (printed_names_of schema) (slice_get (deps_of schema) k)
    ++ codes " does not follow from " ++ other)

-- a line for each of them
abbrev pub differences_text : Schema → List ℕ → List ℕ → List ℕ → List ℕ
differences_text schema file other numbers = flat_map (difference_text schema file other) numbers

-- those of the one file, and then those of the other
abbrev pub different_text : Schema → Schema → List ℕ → List ℕ → List ℕ → List ℕ → List ℕ
different_text schema other file other_file there back =
    line (codes "different") ++ differences_text schema file other_file there
    ++ differences_text other other_file file back

-- ---- names
-- the names of a schema are not all declared by the other, with the least of those that are not
abbrev pub LacksName : Schema → Schema → List ℕ → Allowed
LacksName schema other other_file response =
    (a : ℕ) × IsFirstFrom (undeclared_attributes schema other) 0 a
    × Says Refused (not_in_text (attribute_name (printed_names_of schema) a) other_file) response

-- how the names of two schemas end a command: refused exactly where they are not the same, by the first
-- schema's names, and then by the other's
abbrev pub NameStops : Schema → Schema → List ℕ → List ℕ → Allowed
NameStops schema other file other_file response =
    LacksName schema other other_file response
    ⊎ (IsDeclaredBy other schema × LacksName other schema file response)

-- the names are the same, and then the rest follows
abbrev pub WithSameNames : Schema → Schema → List ℕ → List ℕ → Allowed → Allowed
WithSameNames schema other file other_file =
    Unless (NameStops schema other file other_file) (SameNames schema other)

-- ---- answers
-- each implies the dependencies of the other; so they have the same legal relations, columns taken by
-- their names
pub record SayTheSame (schema other : Schema) : Type 0 where
  pub there : IsImpliedBy other schema
  pub back : IsImpliedBy schema other
  pub legal : HaveSameLegalRelations schema other

-- these are the dependencies of each that do not follow from the other, of which there is at least one; so they
-- have not the same legal relations
pub record Differ (schema other : Schema) (of_schema of_other : List ℕ) : Type 0 where
  pub there : AreDifferences schema other of_schema
  pub back : AreDifferences other schema of_other
  pub implied : IsImpliedBy other schema → IsImpliedBy schema other → ⊥
  pub legal : HaveSameLegalRelations schema other → ⊥

-- a text has exactly the dependencies of two schemas that differ which do not follow from the other: for
-- the functions below `check_same` and `check_cover`
pub record IsDifferenceText (schema other : Schema) (file other_file text : List ℕ) : Type 0 where
  pub of_schema : List ℕ
  pub of_other : List ℕ
  pub differ : Differ schema other of_schema of_other
  pub reads : text ≡ different_text schema other file other_file of_schema of_other

-- yes exactly where each follows from the other; else no, with the dependencies that do not
abbrev pub Compares : Schema → Schema → List ℕ → List ℕ → Allowed
Compares schema other file other_file response =
    (SayTheSame schema other × Says Yes equivalent_text response)
    ⊎ ((of_schema : List ℕ) × (of_other : List ℕ) × Differ schema other of_schema of_other
    × Says No (different_text schema other file other_file of_schema of_other) response)

-- the same of schemas that may have other names
abbrev pub ChecksSame : Schema → Schema → List ℕ → List ℕ → Allowed
ChecksSame schema other file other_file =
    WithSameNames schema other file other_file (Compares schema other file other_file)
