-- The law `last_of_the_names_is_taken`, by `last_taken`.
use Rattle.desk_laws.proofs.BegunLaws.{last_taken}
use Rattle.desk_laws.proofs.begun.last_of_the_names_is_taken.Goals as goal

pub returns : goal.returns
returns c = record {
  law = λ files files_after faults faults_after taken old earlier name other last. last_taken old earlier name other last;
}
