-- The law `texts_of_files_have_one_reading`, by the lemmas of `OneText`.
use Rattle.desk_laws.proofs.OneText.{derivation_text_once, plan_text_once, proof_text_once, rows_text_once, schema_text_once}
use Rattle.desk_laws.proofs.one_answer.texts_of_files_have_one_reading.Goals as goal

pub returns : goal.returns
returns c = record {
  schema = schema_text_once;
  plan = plan_text_once;
  proof = proof_text_once;
  derivation = derivation_text_once;
  rows = rows_text_once;
}
