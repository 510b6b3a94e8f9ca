-- The laws `migrations_of_designs_end`, clause by clause.
use Rattle.migration_laws.proofs.FitLemmas.{fits, migrations_end}
use Rattle.migration_laws.proofs.OwnNameLemmas.{own_names}
use Rattle.migration_laws.proofs.ending.migrations_of_designs_end.Goals as goal

pub returns : goal.returns
returns c = record {
  fits = fits;
  own_names = own_names;
  ends = migrations_end;
}
