-- What the loop of `sides_after` keeps: `rights`, `untested`, `tested`.
use Rattle.std.proofs.Common.{◌≡◌, ◌+◌, ℕ, take}
use Rattle.std.specs.Prelude.{All}
use Rattle.dep_model.specs.Plans.{schemes_of}
use Rattle.dep_model.specs.Tuples.{Relation}
use Rattle.candidate_sets.specs.Evidence.{AreEvidence}
use Rattle.candidate_search.specs.Sides.{IsAnsweredAt, IsTested, rights_of}
use Rattle.candidate_search.proofs.learning.sides_after.Given as goal

-- the sides so far
abbrev pub invariant-loop-side : goal.invariant-loop-side
invariant-loop-side l = record {
  rights : rights_of l.next.items ≡ rights_of (take l.side-index l.sides);
  untested : (r : Relation) → All (IsTested l.width l.most r 0) l.sides → AreEvidence l.width r (schemes_of l.found)
      → All (IsTested l.width l.most r 0) l.next.items;
  tested : (r : Relation) (size : ℕ) → All (IsTested l.width l.most r size) l.sides
      → AreEvidence l.width r (schemes_of l.found)
      → All (IsAnsweredAt l.width r (schemes_of l.found) size) l.sides
      → All (IsTested l.width l.most r (size + 1)) l.next.items;
}
