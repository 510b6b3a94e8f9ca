-- What is left to prove of `migrate_script`: its clauses, by `fills_tables`, `view_is_table`, `all_moved`,
-- `nothing_kept` and `run_ends`.
use Rattle.sql_migrate_laws.proofs.EndLemmas.{run_ends}
use Rattle.sql_migrate_laws.proofs.MovedLemmas.{all_moved}
use Rattle.sql_migrate_laws.proofs.RunLemmas.{nothing_kept}
use Rattle.sql_scripts.specs.Naming.{quoted_table}
use Rattle.sql_scripts.proofs.ScriptLemmas.{fills_tables, view_is_table}
use Rattle.sql_scripts.proofs.migrating.migrate_script.Goals as goal

pub returns-clause-fills : goal.returns-clause-fills
returns-clause-fills c = fills_tables c.args.schema.now c.args.design.now

pub returns-clause-view : goal.returns-clause-view
returns-clause-view c = view_is_table c.args.schema.now c.args.design.now

pub returns-clause-moves : goal.returns-clause-moves
returns-clause-moves c fails cast cell r start last holds e =
    (all_moved fails cast c.args.schema.now (quoted_table c.args.table.now) cell r c.args.design.now start last holds e).moved

pub returns-clause-whole : goal.returns-clause-whole
returns-clause-whole c fails cast cell r start last holds e =
    (all_moved fails cast c.args.schema.now (quoted_table c.args.table.now) cell r c.args.design.now start last holds e).whole

pub returns-clause-leaves : goal.returns-clause-leaves
returns-clause-leaves c fails cast cell r start last holds e =
    (all_moved fails cast c.args.schema.now (quoted_table c.args.table.now) cell r c.args.design.now start last holds e).leaves

pub returns-clause-undoes : goal.returns-clause-undoes
returns-clause-undoes c fails cast start kept e =
    nothing_kept fails cast c.args.schema.now (quoted_table c.args.table.now) c.args.design.now start kept e

pub returns-clause-ends : goal.returns-clause-ends
returns-clause-ends c fails cast cell r start sound =
    run_ends fails cast c.args.schema.now (quoted_table c.args.table.now) cell r c.args.design.now start sound
