-- What is left to prove of `measure_script`: its clause `measures`, by `rules_measured`.
use Rattle.sql_measure_laws.proofs.LawLemmas.{rules_measured}
use Rattle.sql_scripts.specs.Naming.{quoted_table}
use Rattle.sql_scripts.proofs.measuring.measure_script.Goals as goal

pub returns-clause-measures : goal.returns-clause-measures
returns-clause-measures c e = rules_measured e (quoted_table c.args.table.now) c.args.schema.now
