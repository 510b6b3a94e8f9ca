-- The law `printed_goals_are_read_back`, by `goal_means` and `set_means`.
use Rattle.printing_laws.proofs.PrintedGoals.{goal_means, set_means}
use Rattle.printing_laws.proofs.printed_goals_are_read_back.Goals as goal

pub returns : goal.returns
returns c = record { goal = goal_means; set = set_means }
