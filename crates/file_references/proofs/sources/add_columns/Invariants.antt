-- What the loop of `add_columns` keeps: `adds`.
use Rattle.std.proofs.Common.{map}
use Rattle.file_references.specs.Finds.{Adds, AreReferences, IsTargetOf, RefersFromColumns, reference_of}
use Rattle.headed_rows.specs.Headings.{headed_of}
use Rattle.file_references.proofs.sources.add_columns.Given as goal

-- the references from the columns so far
abbrev pub invariant-loop-column : goal.invariant-loop-column
invariant-loop-column l = record {
  adds : AreReferences (map headed_of l.files) (map reference_of l.fn.found.items) → IsTargetOf (map headed_of l.files) l.target
      → Adds (map headed_of l.files) (RefersFromColumns l.target l.file l.column) (map reference_of l.fn.found.items) (map reference_of l.found.items);
}
