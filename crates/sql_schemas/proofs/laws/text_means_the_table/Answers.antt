-- The laws `text_means_the_table`, clause by clause.
use Rattle.sql_schemas.proofs.LawLemmas.{import_means, read_never_missing, whole_stated}
use Rattle.sql_schemas.proofs.laws.text_means_the_table.Goals as goal

pub returns : goal.returns
returns c = record {
  means = import_means;
  stated = whole_stated;
  never_missing = read_never_missing;
}
