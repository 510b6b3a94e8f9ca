-- The law `references_are_stated`, by `stated`.
use Rattle.table_laws.proofs.StatedReferences.{stated}
use Rattle.table_laws.proofs.references_are_stated.Goals as goal

pub returns : goal.returns
returns c = record { law = stated }
