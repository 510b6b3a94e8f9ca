-- What the loop of `class_parts` keeps: the classes so far.
use Rattle.std.proofs.Common.{◌≡◌, map, take}
use Rattle.row_measures.specs.ByClass.{part_by}
use Rattle.row_measures.proofs.listing.class_parts.Given as goal

abbrev pub invariant-loop-class : goal.invariant-loop-class
invariant-loop-class l = record { parts : l.parts.items ≡ map (part_by l.sorted) (take l.class-index l.class-items) }
