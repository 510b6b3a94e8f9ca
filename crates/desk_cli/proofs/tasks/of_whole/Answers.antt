-- What is left to prove of `of_whole`: its clause `reads`.
use Rattle.desk_discovery.specs.AllDiscoveries.{FindsAllRules}
use Rattle.desk_inputs.specs.Readings.{Reading}
use Rattle.desk_inputs.proofs.CallLemmas.{not_opened, opened}
use Rattle.desk_cli.proofs.tasks.of_whole.Goals as goal

pub returns-in-Err : goal.returns-in-Err
returns-in-Err g c = record { reads = not_opened (λ (r : Reading). FindsAllRules) c.in-Err.ensures.opens }

pub returns : goal.returns
returns g c = record {
  reads = opened FindsAllRules c.discover_all_rules.result c.in-Ok.ensures.opens c.discover_all_rules.ensures.response;
}
