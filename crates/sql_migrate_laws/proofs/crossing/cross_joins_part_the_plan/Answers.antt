-- What is left to prove of `cross_joins_part_the_plan`: its clause `law`, by `order_crosses`.
use Rattle.sql_migrate_laws.proofs.CrossingLemmas.{order_crosses}
use Rattle.sql_migrate_laws.proofs.crossing.cross_joins_part_the_plan.Goals as goal

pub returns : goal.returns
returns c = record { law = order_crosses }
