-- The law `explained_goals_are_accepted`, by `explained_accepted`.
use Rattle.implication_laws.proofs.ExplainedGoals.{explained_accepted}
use Rattle.implication_laws.proofs.explaining.explained_goals_are_accepted.Goals as goal

pub returns : goal.returns
returns c = record { law = explained_accepted }
