-- What is left to prove of `tables_of_a_form_are_imported`: what it ensures, by `form_imported`.
use Rattle.desk_laws.proofs.ImportedLaws.{form_imported}
use Rattle.desk_laws.proofs.imported.tables_of_a_form_are_imported.Goals as goal

pub returns : goal.returns
returns c = record { law = form_imported }
