-- The law `explained_goals_are_decided`, by `explained_as_decided` and `explained_twice`.
use Rattle.implication_laws.proofs.ExplainedGoals.{explained_as_decided, explained_twice}
use Rattle.implication_laws.proofs.explaining.explained_goals_are_decided.Goals as goal

pub returns : goal.returns
returns c = record { law = explained_as_decided; one = explained_twice }
