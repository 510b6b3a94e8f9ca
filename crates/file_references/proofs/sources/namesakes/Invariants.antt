-- What the loop of `namesakes` keeps: `named`.
use Rattle.std.proofs.Common.{take}
use Rattle.file_references.specs.Finds.{AreNamedAs}
use Rattle.file_references.proofs.sources.namesakes.Given as goal

-- the columns so far
abbrev pub invariant-loop-column : goal.invariant-loop-column
invariant-loop-column l = record { named : AreNamedAs l.names l.others l.found.items (take l.column-index l.columns) }
