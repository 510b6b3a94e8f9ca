-- What is left to prove of `sound_migrations_end`: its clause `law`, by `run_ends`.
use Rattle.sql_migrate_laws.proofs.EndLemmas.{run_ends}
use Rattle.sql_migrate_laws.proofs.ending.sound_migrations_end.Goals as goal

pub returns : goal.returns
returns c = record { law = run_ends }
