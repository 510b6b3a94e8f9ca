-- What is left to prove of `check_script`: its clauses `exact`, `tells` and `tells_all`, by `nothing_breaks`,
-- `legal_told` and `rules_told`.
use Rattle.sql_check_laws.proofs.LawLemmas.{legal_told}
use Rattle.sql_check_laws.proofs.ScriptLemmas.{rules_told}
use Rattle.sql_scripts.specs.Naming.{quoted_table}
use Rattle.sql_scripts.proofs.ScriptLemmas.{nothing_breaks}
use Rattle.sql_scripts.proofs.checking.check_script.Goals as goal

pub returns-clause-exact : goal.returns-clause-exact
returns-clause-exact c = nothing_breaks c.args.schema.now

pub returns-clause-tells : goal.returns-clause-tells
returns-clause-tells c e = legal_told e (quoted_table c.args.table.now) c.args.schema.now

pub returns-clause-tells_all : goal.returns-clause-tells_all
returns-clause-tells_all c e = rules_told e (quoted_table c.args.table.now) c.args.schema.now
