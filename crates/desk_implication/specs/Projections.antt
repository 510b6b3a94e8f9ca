-- The functional dependencies inside a set, as a schema of its attributes: for `project`.
use Rattle.std.specs.Prelude.{◌⊎◌, ℕ, List, ◌++◌, codes}
use Rattle.attr_sets.specs.Attributes.{Attributes, IsEmpty}
use Rattle.dep_model.specs.Dependencies.{Dependency}
use Rattle.schema_model.specs.Schemas.{width_of, theory_of}
use Rattle.schema_model.specs.Schemas.{Schema}
use Rattle.fd_closure.specs.LeftSides.{IsWideScheme}
use Rattle.fd_projection.specs.Projections.{IsProjection, IsCoverWithin}
use Rattle.fd_projection.specs.Refusals.{IsRefusedProjection}
use Rattle.fd_projection.specs.declared.refusal.ProjectionRefusal.TheVariants.{TooWide, TooMany}
use Rattle.schema_printer.specs.Parts.{part_text}
use Rattle.schema_printer.specs.Spelling.{printed_names_of}
use Rattle.desk_responses.specs.declared.status.Status.TheVariants.{Yes, Refused}
use Rattle.desk_responses.specs.ResponseValues.{Allowed, Says}
use Rattle.desk_responses.specs.Lines.{too_wide_text}
use Rattle.desk_arguments.specs.Goals.{WithSet}
use Rattle.desk_texts.specs.Texts.{line, overlong_text}

-- ---- texts
-- the set has no attribute
abbrev pub empty_set_text : List ℕ
empty_set_text = line (codes "refused: set is empty")

-- more dependencies than are listed have a least left side
abbrev pub too_many_dependencies_text : List ℕ
too_many_dependencies_text = line (codes "refused: too many dependencies")

-- the attributes of a set and dependencies over them, as a schema text
abbrev pub projection_text : Schema → Attributes → List Dependency → List ℕ
projection_text schema set rules = overlong_text rules ++ part_text schema set rules

-- ---- answers
-- the functional dependencies inside a set that has attributes and is not too wide: one inside it
-- follows from them exactly where it follows from the schema, and nothing of them can be spared
pub record IsProjected (schema : Schema) (set : Attributes) (rules : List Dependency) : Type 0 where
  pub not_empty : IsEmpty set → ⊥
  pub narrow : IsWideScheme (theory_of schema) set → ⊥
  pub projection : IsProjection (width_of schema) (theory_of schema) set rules
  pub cover : IsCoverWithin (width_of schema) (theory_of schema) set rules

-- a set that has attributes is refused where it is too wide, else where too many dependencies inside it
-- have a least left side
abbrev pub RefusesProjection : Schema → Attributes → Allowed
RefusesProjection schema set response =
    (IsEmpty set → ⊥)
    × ((IsRefusedProjection (width_of schema) (theory_of schema) set TooWide
    × Says Refused (too_wide_text (printed_names_of schema) set) response)
    ⊎ (IsRefusedProjection (width_of schema) (theory_of schema) set TooMany
    × Says Refused too_many_dependencies_text response))

-- yes, with the functional dependencies inside a set; the set is refused where it is empty, too wide, or
-- has too many of them
abbrev pub ProjectsSet : Schema → Attributes → Allowed
ProjectsSet schema set response =
    (IsEmpty set × Says Refused empty_set_text response)
    ⊎ (RefusesProjection schema set response
    ⊎ ((rules : List Dependency) × IsProjected schema set rules
    × Says Yes (projection_text schema set rules) response))

-- the same of a set that is given as a text
abbrev pub Projects : Schema → List ℕ → Allowed
Projects schema set = WithSet schema set (ProjectsSet schema)
