-- The law `printed_plan_means`, by `PrintedLaws`.
use Rattle.plan_grammar.proofs.PrintedLaws as printed
use Rattle.plan_grammar.proofs.laws.printed_plan_means.Goals as goal

pub returns : goal.returns
returns c = record { law = printed.printed_plan_means }
