-- What is left to prove of `of_derivation`: its clause `reads`.
use Rattle.std.proofs.Common.{List, subst}
use Rattle.derivation_grammar.specs.Lines.{DerivationLine}
use Rattle.derivation_text.specs.Views.{derivation_lines_of}
use Rattle.derivation_text.specs.declared.line.DerivationLine as code
use Rattle.desk_implication.specs.Derivations.{ChecksDerivation}
use Rattle.desk_responses.specs.Responses.{RespondsAs}
use Rattle.desk_inputs.specs.Readings.{Reading}
use Rattle.desk_inputs.proofs.CallLemmas.{not_opened, opened}
use Rattle.desk_cli.proofs.tasks.of_derivation.Goals as goal

pub returns-in-Err : goal.returns-in-Err
returns-in-Err g c = record { reads = not_opened (λ (r : Reading) (lines : List DerivationLine). ChecksDerivation c.args.schema.now lines c.args.goal.now) c.in-Err.ensures.opens }

pub returns : goal.returns
returns g c = record {
  reads = opened (λ (lines : List DerivationLine). ChecksDerivation c.args.schema.now lines c.args.goal.now) c.check_derivation.result c.in-Ok.ensures.opens
      (subst (λ (lines : List code.DerivationLine). RespondsAs (ChecksDerivation c.args.schema.now (derivation_lines_of lines) c.args.goal.now) c.check_derivation.result)
      c.deref.ensures.value c.check_derivation.ensures.response);
}
