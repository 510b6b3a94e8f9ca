-- The laws `migrated_tables_are_designed`, clause by clause.
use Rattle.plan_laws.proofs.DesignedLaws.{designed, keys_hold, other_keys_hold, references_hold}
use Rattle.plan_laws.proofs.FormTables.{form_designed}
use Rattle.plan_laws.proofs.designed.migrated_tables_are_designed.Goals as goal

pub returns : goal.returns
returns c = record {
  plan = designed;
  form = form_designed;
  keys = keys_hold;
  other_keys = other_keys_hold;
  references = references_hold;
}
