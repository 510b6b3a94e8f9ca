-- What is left to prove of `tables_of_a_plan_are_imported`: what it ensures, by `plan_imported`.
use Rattle.desk_laws.proofs.ImportedLaws.{plan_imported}
use Rattle.desk_laws.proofs.imported.tables_of_a_plan_are_imported.Goals as goal

pub returns : goal.returns
returns c = record { law = plan_imported }
