-- What the loop of `add_sources` keeps: `adds`.
use Rattle.std.proofs.Common.{map}
use Rattle.file_references.specs.Finds.{Adds, AreReferences, IsTargetOf, RefersFromFirst, reference_of}
use Rattle.headed_rows.specs.Headings.{headed_of}
use Rattle.file_references.proofs.sources.add_sources.Given as goal

-- the references from the files in their turns so far
abbrev pub invariant-loop-turn : goal.invariant-loop-turn
invariant-loop-turn l = record {
  adds : AreReferences (map headed_of l.files) (map reference_of l.fn.found.items) → IsTargetOf (map headed_of l.files) l.target
      → Adds (map headed_of l.files) (RefersFromFirst l.target l.turn) (map reference_of l.fn.found.items) (map reference_of l.found.items);
}
