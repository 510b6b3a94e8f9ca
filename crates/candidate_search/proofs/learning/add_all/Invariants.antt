-- What the loop of `add_all` keeps: `candidates`, `within_limit`.
use Rattle.std.proofs.Common.{◌++◌, ◌≤◌, List, length, take}
use Rattle.attr_sets.specs.Attributes.{Attributes}
use Rattle.dep_model.specs.Plans.{schemes_of}
use Rattle.candidate_sets.specs.Standing.{AreCandidates}
use Rattle.candidate_sets.specs.declared.refusal.TheConstants.{MOST_CANDIDATES}
use Rattle.candidate_search.proofs.learning.add_all.Given as goal

-- the candidates with the evidence so far
abbrev pub invariant-loop-evidence : goal.invariant-loop-evidence
invariant-loop-evidence l = record {
  candidates : (es : List Attributes)
      → AreCandidates l.width l.most es l.right (schemes_of l.fn.candidates.items)
      → AreCandidates l.width l.most (schemes_of (take l.evidence-index l.found) ++ es) l.right
      (schemes_of l.candidates.items);
  within_limit : length l.candidates.items ≤ MOST_CANDIDATES;
}
