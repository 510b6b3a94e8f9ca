-- The refusal of a multivalued dependency, where all must be functional: for `exhibit` and what searches rows.
use Rattle.std.specs.Prelude.{◌≡◌, ◌⊎◌, ◌≤◌, ℕ, List, ◌++◌, codes, slice_get}
use Rattle.schema_model.specs.Schemas.{lines_of}
use Rattle.schema_model.specs.Schemas.{Schema}
use Rattle.desk_responses.specs.Lines.{line_number_text}
use Rattle.desk_texts.specs.Texts.{line}

-- a multivalued dependency is given
abbrev pub multivalued_text : Schema → ℕ → List ℕ
multivalued_text schema dep =
    line (codes "refused: line " ++ line_number_text (slice_get (lines_of schema) dep)
    ++ codes " is multivalued")
