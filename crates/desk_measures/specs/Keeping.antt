-- The rows that no dependency removes: for `kept`.
use Rattle.std.specs.Prelude.{◌≡◌, ◌⊎◌, ℕ, Bool, List}
use Rattle.armstrong_rel.specs.Refusals.{IsFirstMvd, IsFunctional}
use Rattle.csv_text.specs.Rows.{rows_text}
use Rattle.schema_model.specs.Schemas.{names_of, theory_of, LegalFor, theory_in}
use Rattle.dep_model.specs.Tuples.{Relation}
use Rattle.schema_model.specs.Schemas.{Schema}
use Rattle.legality.specs.Parts.{flag_at}
use Rattle.removal_laws.specs.Removals.{rows_at}
use Rattle.row_measures.specs.Answers.{AreKeptFlags}
use Rattle.desk_responses.specs.Multivalued.{multivalued_text}
use Rattle.desk_responses.specs.declared.status.Status.TheVariants.{Yes, Refused}
use Rattle.desk_responses.specs.ResponseValues.{Allowed, Says}

-- the rows that each dependency keeps, in their order; they are legal
pub record AreKeptRows (schema : Schema) (rows kept : Relation) : Type 0 where
  pub functional : IsFunctional (theory_in schema)
  pub flags : List Bool
  pub are : AreKeptFlags (theory_of schema) rows flags
  pub rest : kept ≡ rows_at (flag_at flags) rows
  pub legal : LegalFor schema kept

-- yes, with these; refused where a multivalued dependency is given, the first of which is named
abbrev pub KeepsRows : Schema → Relation → Allowed
KeepsRows schema rows response =
    ((kept : Relation) × AreKeptRows schema rows kept × Says Yes (rows_text (names_of schema) kept) response)
    ⊎ ((dep : ℕ) × IsFirstMvd (theory_of schema) dep × Says Refused (multivalued_text schema dep) response)
