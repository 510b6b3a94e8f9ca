-- The laws `columns_are_imported`, clause by clause.
use Rattle.desk_imports.proofs.LawLemmas.{values_fit, import_once}
use Rattle.desk_imports.proofs.MeaningLemmas.{text_means}
use Rattle.desk_imports.proofs.column_laws.columns_are_imported.Goals as goal

pub returns : goal.returns
returns c = record {
  fits = values_fit;
  means = text_means;
  unique = import_once;
}
