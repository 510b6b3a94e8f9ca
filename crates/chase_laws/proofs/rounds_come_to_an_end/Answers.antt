-- The laws `rounds_come_to_an_end`, clause by clause.
use Rattle.chase_laws.proofs.RoundLemmas.{rounds_end, functional_within_limit}
use Rattle.chase_laws.proofs.rounds_come_to_an_end.Goals as goal

pub returns : goal.returns
returns c = record {
  last = rounds_end;
  small = functional_within_limit;
}
