-- The laws `types_are_read_back`, clause by clause.
use Rattle.import_laws.proofs.TypeLemmas.{own_stated}
use Rattle.import_laws.proofs.WrittenLemmas.{written_read, read_again}
use Rattle.import_laws.proofs.types_are_read_back.Goals as goal

pub returns : goal.returns
returns c = record {
  stated = own_stated;
  written = written_read;
  read_again = read_again;
}
