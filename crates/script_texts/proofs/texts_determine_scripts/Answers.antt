-- The law `texts_determine_scripts`, by `one_script`.
use Rattle.script_texts.proofs.Statements.{one_script}
use Rattle.script_texts.proofs.texts_determine_scripts.Goals as goal

pub returns : goal.returns
returns c = record { law = one_script }
