-- What the loop of `read_lines` keeps: `Reads`; and by what it ends.
use Rattle.std.proofs.Common.{length}
use Rattle.schema_model.specs.Schemas.{naming_of, names_of}
use Rattle.plan_reader.specs.Drafts.{drafted}
use Rattle.plan_reader.proofs.ReadingLemmas.{Reads}
use Rattle.plan_reader.proofs.reading.read_lines.Given as goal

abbrev pub invariant-lines : goal.invariant-lines
invariant-lines l = Reads (naming_of l.schema) (names_of l.schema) l.fn.text (drafted l.draft) l.number l.rest

abbrev pub decreases-lines : goal.decreases-lines
decreases-lines l = length l.rest
