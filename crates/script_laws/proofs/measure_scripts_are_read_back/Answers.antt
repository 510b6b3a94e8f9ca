-- What is left to prove of `measure_scripts_are_read_back`: what it ensures, by the lemmas on the text of the script
-- and on
-- its statements, and that a text has one script.
use Rattle.std.proofs.Common.{◌∙◌}
use Rattle.script_texts.proofs.Statements.{one_script}
use Rattle.script_laws.specs.Printed.{measure_script}
use Rattle.script_laws.proofs.Remarks.{measure_script_is}
use Rattle.script_laws.proofs.Texts.{measure_text_is}
use Rattle.script_laws.proofs.measure_scripts_are_read_back.Goals as goal

pub returns : goal.returns
returns c = record {
  text = measure_text_is;
  back = measure_script_is;
  one = λ s table script named names is same.
      one_script script (measure_script s table) is (measure_script_is s table named names) (same
      ∙ measure_text_is s table);
}
