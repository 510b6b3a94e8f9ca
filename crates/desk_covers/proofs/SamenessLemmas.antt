-- What follows from the differences of two schemas over the same names.
use Rattle.std.proofs.Common.{◌≡◌, ℕ, List, []}
use Rattle.std.specs.Prelude.{◌↔◌}
use Rattle.schema_model.specs.Schemas.{Schema}
use Rattle.schema_match.specs.Carried.{IsImpliedBy}
use Rattle.schema_match.specs.Columns.{SameNames}
use Rattle.schema_match.specs.Differences.{AreDifferences}
use Rattle.schema_match.proofs.MatchLemmas.{have_same_legal_relations, implied_there, implied_back}
use Rattle.desk_covers.specs.Sameness.{SayTheSame, Differ}

pub say_the_same : (schema other : Schema) → SameNames schema other → IsImpliedBy other schema → IsImpliedBy schema other
    → SayTheSame schema other
say_the_same schema other names there back = record { there = there; back = back; legal = have_same_legal_relations schema other names there back }

pub differences_differ : (schema other : Schema) (of_schema of_other : List ℕ) → SameNames schema other
    → AreDifferences schema other of_schema → AreDifferences other schema of_other
    → (of_schema ≡ []) ↔ IsImpliedBy other schema → (of_other ≡ []) ↔ IsImpliedBy schema other
    → ((of_schema ≡ []) × (of_other ≡ []) → ⊥) → Differ schema other of_schema of_other
differences_differ schema other of_schema of_other names there back none_there none_back not_empty = record {
  there = there;
  back = back;
  implied = λ implied again. not_empty (none_there.1 implied, none_back.1 again);
  legal = λ same. not_empty (none_there.1 (implied_there schema other names same), none_back.1 (implied_back schema other names same));
}
