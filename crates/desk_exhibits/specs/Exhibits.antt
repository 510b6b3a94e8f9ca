-- A relation that obeys just the functional dependencies that follow from a schema: for `exhibit`.
use Rattle.std.specs.Prelude.{◌≡◌, ◌⊎◌, ◌≤◌, ℕ, List, ◌++◌, codes, length}
use Rattle.armstrong_rel.specs.declared.refusal.ExhibitRefusal.TheVariants.{NotFunctional, TooWide, TooManyRows}
use Rattle.armstrong_rel.specs.Exhibits.{IsExhibit, IsArmstrong}
use Rattle.armstrong_rel.specs.Refusals.{IsFunctional, IsTooWideToExhibit, IsRefusedExhibit}
use Rattle.armstrong_rel.specs.declared.refusal.TheConstants.{MOST_EXHIBITED_ROWS}
use Rattle.column_values.specs.Values.{FitsColumns}
use Rattle.csv_text.specs.Rows.{rows_text}
use Rattle.schema_model.specs.Schemas.{names_of, width_of, theory_of, universe_of, LegalFor, theory_in}
use Rattle.schema_model.specs.Schemas.{Schema}
use Rattle.dep_model.specs.Tuples.{Relation}
use Rattle.schema_printer.specs.Spelling.{printed_names_of}
use Rattle.typed_rows.specs.Shown.{shown_relation}
use Rattle.desk_responses.specs.declared.status.Status.TheVariants.{Yes, Refused}
use Rattle.desk_responses.specs.ResponseValues.{Allowed, Says}
use Rattle.desk_responses.specs.Lines.{too_wide_text}
use Rattle.desk_texts.specs.Texts.{line}
use Rattle.desk_responses.specs.Multivalued.{multivalued_text}

-- the relation would have more rows than are printed
abbrev pub too_many_rows_text : List ℕ
too_many_rows_text = line (codes "refused: too many rows")

-- the relation of the irreducible closed sets, as it is shown: it fits the columns, is legal, and obeys a functional
-- dependency exactly where that is implied. It is had only where all dependencies are functional and the schema
-- is not too wide, and has no more rows than are printed
pub record IsExample (schema : Schema) (rows : Relation) : Type 0 where
  pub functional : IsFunctional (theory_in schema)
  pub narrow : IsTooWideToExhibit (theory_in schema) → ⊥
  pub within_limit : length rows ≤ MOST_EXHIBITED_ROWS
  pub numbers : Relation
  pub exhibit : IsExhibit (width_of schema) (theory_of schema) numbers
  pub shown : rows ≡ shown_relation schema numbers
  pub fits : FitsColumns schema rows
  pub legal : LegalFor schema rows
  pub exact : IsArmstrong (width_of schema) (theory_of schema) rows

-- yes, with the relation; refused where a multivalued dependency is given, the first of which is named,
-- else where the schema is too wide, and else where the relation has too many rows
abbrev pub Exhibits : Schema → Allowed
Exhibits schema response =
    ((rows : Relation) × IsExample schema rows × Says Yes (rows_text (names_of schema) rows) response)
    ⊎ (((dep : ℕ) × IsRefusedExhibit (theory_in schema) (NotFunctional dep)
    × Says Refused (multivalued_text schema dep) response)
    ⊎ ((IsRefusedExhibit (theory_in schema) TooWide
    × Says Refused (too_wide_text (printed_names_of schema) (universe_of schema)) response)
    ⊎ (IsRefusedExhibit (theory_in schema) TooManyRows × Says Refused too_many_rows_text response)))
