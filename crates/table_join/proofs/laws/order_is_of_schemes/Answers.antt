-- The law `order_is_of_schemes`, by `OrderLemmas`.
use Rattle.std.proofs.Common.{sym}
use Rattle.table_join.specs.Tables.{PartialRelation, scheme_of_table}
use Rattle.table_join.proofs.OrderLemmas.{from_last_mapped, from_last_permutes}
use Rattle.table_join.proofs.laws.order_is_of_schemes.Goals as goal

pub returns-clause-same : goal.returns-clause-same
returns-clause-same c = λ tables. from_last_permutes scheme_of_table tables

pub returns-clause-schemes : goal.returns-clause-schemes
returns-clause-schemes c = λ tables. sym (from_last_mapped (λ (t : PartialRelation). t.scheme) (λ s. s) tables)
