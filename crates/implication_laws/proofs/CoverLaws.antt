-- What `cover` prints is answered as its schema is, and `cover canonical` prints it with its left sides merged.
use Rattle.std.proofs.Common.{◌≡◌, List, ap, subst, ◌∙◌}
use Rattle.canonical_cover.specs.Merging.{merge_left_sides}
use Rattle.dep_model.specs.Dependencies.{Dependency}
use Rattle.schema_model.specs.Schemas.{Schema, theory_of, width_of}
use Rattle.schema_printer.specs.Printing.{schema_text}
use Rattle.desk_covers.specs.Covering.{GivesCanonicalCover, GivesCover}
use Rattle.desk_responses.specs.ResponseValues.{ResponseValue, Says}
use Rattle.desk_responses.specs.declared.status.Status.TheVariants.{Yes}
use Rattle.implication_laws.specs.Alike.{AnswersAlikeWith}
use Rattle.implication_laws.proofs.AlikeLaws.{alike_with}
use Rattle.implication_laws.proofs.OneCover.{one_whole_cover}

pub cover_alike : (schema : Schema) (printed : ResponseValue) → GivesCover schema printed
    → (whole : List Dependency) × Says Yes (schema_text schema whole) printed × AnswersAlikeWith schema whole
cover_alike schema printed (whole, fixed, minimal, covers, says) =
    (whole, says, alike_with schema whole covers.same_legal)

pub canonical_merged : (schema : Schema) (plain canonical : ResponseValue) → GivesCover schema plain → GivesCanonicalCover schema canonical
    → (whole : List Dependency) × Says Yes (schema_text schema whole) plain
    × Says Yes (schema_text schema (merge_left_sides whole)) canonical
canonical_merged schema plain canonical (whole, fixed, minimal, covers, says) (cover, also, is, too, said) =
    let same : cover ≡ merge_left_sides whole =
    also.once ∙ ap merge_left_sides (one_whole_cover (width_of schema) (theory_of schema) also.whole whole also.fixed fixed) in (
      whole,
      says,
      subst (λ (ds : List Dependency). Says Yes (schema_text schema ds) canonical) same said,
    )
