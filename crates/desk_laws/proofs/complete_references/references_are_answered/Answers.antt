-- The laws `references_are_answered`, clause by clause.
use Rattle.desk_laws.proofs.ReferenceLaws.{references_answered, check_answered}
use Rattle.desk_laws.proofs.complete_references.references_are_answered.Goals as goal

pub returns : goal.returns
returns c = record {
  discover = references_answered;
  check = check_answered;
}
