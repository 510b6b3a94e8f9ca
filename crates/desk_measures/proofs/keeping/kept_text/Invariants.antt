-- What the loop of `kept_text` keeps: the text of those of the rows so far that have a flag.
use Rattle.std.proofs.Common.{◌≡◌, take}
use Rattle.csv_text.specs.Rows.{rows_text}
use Rattle.schema_model.specs.Schemas.{names_of}
use Rattle.legality.specs.Parts.{flag_at}
use Rattle.removal_laws.specs.Removals.{rows_at}
use Rattle.desk_measures.proofs.keeping.kept_text.Given as goal

abbrev pub invariant-loop-row : goal.invariant-loop-row
invariant-loop-row l = l.text.items ≡ rows_text (names_of l.schema) (rows_at (flag_at l.kept) (take l.row l.rows))
