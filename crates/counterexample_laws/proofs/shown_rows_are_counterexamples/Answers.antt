-- The law `shown_rows_are_counterexamples`, by `legal_counterexample`.
use Rattle.counterexample_laws.proofs.ShownTuples.{legal_counterexample}
use Rattle.counterexample_laws.proofs.shown_rows_are_counterexamples.Goals as goal

pub returns : goal.returns
returns c = record { law = λ schema d agreement. legal_counterexample schema agreement d }
