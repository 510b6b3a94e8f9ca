-- What is left to prove of `migration_scripts_are_read_back`: what it ensures, by `migration_is` and that a text has
-- one script.
use Rattle.script_texts.proofs.Statements.{one_script}
use Rattle.sql_migrate.specs.Script.{migration}
use Rattle.script_laws.proofs.Migrations.{migration_is}
use Rattle.script_laws.proofs.migration_scripts_are_read_back.Goals as goal

pub returns : goal.returns
returns c = record {
  back = migration_is;
  one = λ s table tables script named names plain is same.
      one_script script (migration s table tables) is (migration_is s table tables named names plain) same;
}
