-- The laws `evidence_steps_to_candidates`, clause by clause.
use Rattle.candidate_sets.proofs.StepLemmas.{first_candidates, candidates_still, step_candidates, grown_once}
use Rattle.candidate_sets.proofs.CountLemmas.{less_room}
use Rattle.candidate_sets.proofs.laws.evidence_steps_to_candidates.Goals as goal

pub returns : goal.returns
returns c = record {
  first = first_candidates;
  unchanged = λ n most es a e xs has are. candidates_still n most es a e has xs are;
  step = λ n most es a e xs ys lacks are step. step_candidates n most es a e xs are lacks ys step;
  once = λ n most es a e xs hit other b d y z are is_hit is_other one two inside.
      grown_once n most es a e xs are hit other b d y z is_hit is_other one two inside;
  room = less_room;
}
