-- The laws `cells_of_values_differ`, clause by clause.
use Rattle.table_laws.proofs.QuotedTexts.{texts_tell_values}
use Rattle.table_laws.proofs.CellTexts.{values_tell, cells_tell}
use Rattle.table_laws.proofs.cells_of_values_differ.Goals as goal

pub returns : goal.returns
returns c = record {
  texts = texts_tell_values;
  values = values_tell;
  cells = cells_tell;
}
