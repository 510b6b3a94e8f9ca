-- The laws `imports_are_answered`, clause by clause.
use Rattle.desk_laws.proofs.FileLaws.{import_answered}
use Rattle.desk_laws.proofs.ImportLaws.{postgres_answered, sqlite_answered}
use Rattle.desk_laws.proofs.complete_tables.imports_are_answered.Goals as goal

pub returns : goal.returns
returns c = record {
  csv = import_answered;
  sqlite = sqlite_answered;
  postgres = postgres_answered;
}
