-- The laws `references_have_one_answer`, clause by clause.
use Rattle.desk_laws.proofs.OneReferences.{one_found, one_checked, checked_references}
use Rattle.desk_laws.proofs.one_references.references_have_one_answer.Goals as goal

pub returns : goal.returns
returns c = record {
  discover = one_found;
  check = one_checked;
  checked = checked_references;
}
