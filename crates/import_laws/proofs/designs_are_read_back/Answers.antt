-- The laws `designs_are_read_back`, clause by clause.
use Rattle.import_laws.proofs.LawLemmas.{design_defined, table_imported}
use Rattle.import_laws.proofs.designs_are_read_back.Goals as goal

pub returns : goal.returns
returns c = record {
  defined = design_defined;
  imported = table_imported;
}
