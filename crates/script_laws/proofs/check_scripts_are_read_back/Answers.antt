-- What is left to prove of `check_scripts_are_read_back`: what it ensures, by the lemmas on the text of the script
-- and on its
-- statements, and that a text has one script.
use Rattle.std.proofs.Common.{◌∙◌}
use Rattle.script_texts.proofs.Statements.{one_script}
use Rattle.script_laws.specs.Printed.{check_script}
use Rattle.script_laws.proofs.Remarks.{check_script_is}
use Rattle.script_laws.proofs.Texts.{check_text_is}
use Rattle.script_laws.proofs.check_scripts_are_read_back.Goals as goal

pub returns : goal.returns
returns c = record {
  text = check_text_is;
  back = check_script_is;
  one = λ s table script named names later is same.
      one_script script (check_script s table) is (check_script_is s table named names later) (same
      ∙ check_text_is s table);
}
