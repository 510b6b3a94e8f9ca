-- What is left to prove of `field`: what it answers in the cases `Some` and `None`, by
-- `field_at-slice_index`.
use Rattle.std.proofs.Common.{ℕ, List, Option, [], unwrap_or, ap, ◌∙◌}
use Rattle.csv_rows.proofs.RecordLemmas.{field_at-slice_index}
use Rattle.csv_rows.proofs.records.field.Goals as goal

pub returns-in-Some : goal.returns-in-Some
returns-in-Some c = record { value = ap (λ (o : Option (List ℕ)). unwrap_or o []) c.in-Some.ensures.value ∙ field_at-slice_index _ _ }

pub returns-in-None : goal.returns-in-None
returns-in-None c = record { value = ap (λ (o : Option (List ℕ)). unwrap_or o []) c.in-None.ensures.value ∙ field_at-slice_index _ _ }
