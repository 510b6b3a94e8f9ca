-- What is left to prove of `queries_count_breaches`: what it ensures, by `rules_measured`.
use Rattle.sql_measure_laws.proofs.LawLemmas.{rules_measured}
use Rattle.sql_measure_laws.proofs.laws.queries_count_breaches.Goals as goal

pub returns : goal.returns
returns c = record { law = rules_measured }
