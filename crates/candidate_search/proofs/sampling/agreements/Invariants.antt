-- What the loop of `agreements` keeps: `evidence`.
use Rattle.dep_model.specs.Plans.{schemes_of}
use Rattle.dep_model.specs.Tuples.{Relation}
use Rattle.candidate_sets.specs.Evidence.{AreEvidence}
use Rattle.candidate_search.specs.Sides.{AreCoded}
use Rattle.candidate_search.proofs.sampling.agreements.Given as goal

-- what the pairs so far agree on is evidence
abbrev pub invariant-loop-pair : goal.invariant-loop-pair
invariant-loop-pair l = record {
  evidence : (r : Relation) → AreCoded l.width r l.codes → AreEvidence l.width r (schemes_of l.found.items);
}
