-- The law `migrate_into_is_answered`, by the lemmas of `FolderLaws`.
use Rattle.desk_laws.proofs.FolderLaws.{form_into_answered, plan_into_answered}
use Rattle.desk_laws.proofs.complete_folders.migrate_into_is_answered.Goals as goal

pub returns : goal.returns
returns c = record { in_form = form_into_answered; plan = plan_into_answered }
