-- What is left to prove of `design_scripts_are_read_back`: what it ensures, by `tables_are` and that a text has one
-- script.
use Rattle.script_texts.proofs.Statements.{one_script}
use Rattle.ddl_text.specs.Ddl.{tables_made}
use Rattle.script_laws.proofs.Designs.{tables_are}
use Rattle.script_laws.proofs.design_scripts_are_read_back.Goals as goal

pub returns : goal.returns
returns c = record {
  back = λ s tables names plain. tables_are s tables tables names plain;
  one = λ s tables script names plain is same.
      one_script script (tables_made s tables tables) is (tables_are s tables tables names plain) same;
}
