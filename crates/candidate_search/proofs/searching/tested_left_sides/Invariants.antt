-- What the loop of `tested_left_sides` keeps: `rights`, `findings`, `tested`.
use Rattle.std.proofs.Common.{◌≡◌}
use Rattle.std.specs.Prelude.{All}
use Rattle.dep_model.specs.Plans.{schemes_of}
use Rattle.dep_model.specs.Tuples.{Relation}
use Rattle.candidate_sets.specs.Evidence.{AreEvidence}
use Rattle.candidate_search.specs.Levels.{AreTabled}
use Rattle.candidate_search.specs.Findings.{AreFindings}
use Rattle.candidate_search.specs.Sides.{IsTested, rights_of}
use Rattle.candidate_search.proofs.searching.tested_left_sides.Given as goal

-- the candidates of fewer members are obeyed
abbrev pub invariant-loop-size : goal.invariant-loop-size
invariant-loop-size l = record {
  rights : rights_of l.sides.items ≡ l.rights;
  findings : (r : Relation) → AreTabled l.width r l.table → AreFindings l.width r l.findings;
  tested : (r : Relation) → AreTabled l.width r l.table → AreEvidence l.width r (schemes_of l.seen)
      → All (IsTested l.width l.most r l.size) l.sides.items;
}
