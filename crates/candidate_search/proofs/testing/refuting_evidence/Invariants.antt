-- What the loop of `refuting_evidence` keeps: `findings`, `evidence`, `answered`.
use Rattle.std.proofs.Common.{take}
use Rattle.std.specs.Prelude.{All}
use Rattle.dep_model.specs.Plans.{schemes_of}
use Rattle.dep_model.specs.Tuples.{Relation}
use Rattle.candidate_sets.specs.Evidence.{AreEvidence}
use Rattle.candidate_search.specs.Levels.{AreTabled}
use Rattle.candidate_search.specs.Asking.{HasAnswer}
use Rattle.candidate_search.specs.Findings.{AreFindings}
use Rattle.candidate_search.proofs.testing.refuting_evidence.Given as goal

-- what was asked so far is answered
abbrev pub invariant-loop-one : goal.invariant-loop-one
invariant-loop-one l = record {
  findings : (r : Relation) → AreTabled l.width r l.table → AreFindings l.width r l.fn.findings
      → AreFindings l.width r l.findings;
  evidence : (r : Relation) → AreTabled l.width r l.table → AreFindings l.width r l.fn.findings
      → AreEvidence l.width r (schemes_of l.found.items);
  answered : (r : Relation) → AreTabled l.width r l.table → AreFindings l.width r l.fn.findings
      → All (HasAnswer r (schemes_of l.found.items)) (take l.one-index l.asked);
}
