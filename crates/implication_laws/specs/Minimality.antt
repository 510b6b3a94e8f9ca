-- When a schema is a minimal or a canonical cover by kind, as textbooks say it of functional dependencies: for
-- the laws of `check cover` and `check cover canonical`. `Desk` does not cite it.
use Rattle.canonical_cover.specs.Canonical.{IsCanonicalCover}
use Rattle.cover_accounts.specs.declared.diagnostic.CoverForm.{CoverForm}
use Rattle.cover_accounts.specs.declared.diagnostic.CoverForm.TheVariants.{Minimal, Canonical}
use Rattle.dep_model.specs.Dependencies.{functional_part}
use Rattle.min_cover.specs.Covers.{IsMinimalCover, IsWholeCover}
use Rattle.schema_model.specs.Schemas.{Schema, width_of, theory_of}

-- its functional dependencies are a minimal cover of themselves: each has one attribute on the right, none
-- has one on the left that can be left out, and none follows from the others. And no multivalued dependency
-- follows from the rest
pub record IsMinimalByKind (schema : Schema) : Type 0 where
  pub functional : IsMinimalCover (width_of schema) (theory_of schema) (functional_part (theory_of schema))
  pub multivalued : IsWholeCover (width_of schema) (theory_of schema) (theory_of schema)

-- its functional dependencies are a canonical cover of themselves: each left side stands once, and no attribute
-- can be left out on the left or on the right. And no multivalued dependency follows from the rest
pub record IsCanonicalByKind (schema : Schema) : Type 0 where
  pub functional : IsCanonicalCover (width_of schema) (theory_of schema) (functional_part (theory_of schema))
  pub multivalued : IsWholeCover (width_of schema) (theory_of schema) (theory_of schema)

abbrev pub IsCoverByKind : CoverForm → Schema → Type 0
IsCoverByKind Minimal schema = IsMinimalByKind schema
IsCoverByKind Canonical schema = IsCanonicalByKind schema
