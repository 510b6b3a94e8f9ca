-- The laws `candidates_are_minimal_dependencies`, clause by clause.
use Rattle.candidate_sets.proofs.StandingLemmas.{obeyed_stands, candidate_within, obeyed_minimal}
use Rattle.candidate_sets.proofs.EvidenceLemmas.{new_evidence}
use Rattle.candidate_sets.proofs.laws.candidates_are_minimal_dependencies.Goals as goal

pub returns : goal.returns
returns c = record {
  obeyed = obeyed_stands;
  standing = candidate_within;
  minimal = obeyed_minimal;
  unobeyed = new_evidence;
}
