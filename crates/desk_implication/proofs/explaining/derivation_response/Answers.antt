-- What is left to prove of `derivation_response`: that its lines explain the goal.
use Rattle.std.proofs.Common.{◌≡◌, ◌≤◌, List, ◌++◌, [], length, arith}
use Rattle.std.proofs.lemmas.List.{length-map}
use Rattle.std.proofs.lemmas.Result.{IfOk-weaker}
use Rattle.dep_model.specs.Deps.{dependency_of}
use Rattle.derivation.specs.declared.measures.TheConstants.{MOST_NODES}
use Rattle.derivation_printer.specs.Printing.{derivation_text}
use Rattle.derivation_printer.proofs.PrintedDerivations.{printed_derivation}
use Rattle.short_derivations.specs.Inferences.{Line}
use Rattle.short_derivations.specs.Views.{line_of, lines_of}
use Rattle.desk_texts.specs.Texts.{yes_text}
use Rattle.desk_responses.specs.ResponseValues.{Says}
use Rattle.desk_responses.specs.Responses.{response_value}
use Rattle.desk_responses.specs.declared.status.Status.TheVariants.{Yes}
use Rattle.desk_implication.specs.Explanations.{IsExplanation}
use Rattle.desk_implication.proofs.explaining.derivation_response.Goals as goal

pub returns : goal.returns
returns c =
    let s = c.args.schema.now in
    let d = dependency_of c.args.dep in
    let items = c.in_ok-lines.lines.items in
    let lines : List Line = lines_of items in
    let is = c.theory.ensures.theory in
    let said = c.in_ok-lines.ensures in
    let given = rw is at said.given in
    let long = length-map items line_of in
    let few : length items ≤ MOST_NODES = omega (arith, said.no_longer, c.requires.certifies.proves.size.node_bound) in
    let explanation : IsExplanation s d lines = record {
      short = record {
        given = given;
        concludes = said.concludes;
        used = said.used;
        once = said.once;
        alone = rw is at said.alone;
        two = λ part. omega (arith, (rw is at said.two) part, long);
        spared = rw is at said.spared;
        thrifty = rw is at said.thrifty;
      };
      certificate = c.args.certificate.now;
      certifies = c.requires.certifies;
      no_longer = omega (arith, said.no_longer, long);
      derives = λ names. printed_derivation s items d names given said.concludes few;
    } in
    record {
      response = IfOk-weaker c.lines_response.result
          (λ response. Says Yes (yes_text ++ derivation_text s lines) (response_value response))
          (λ response. (all : List Line) × IsExplanation s d all × Says Yes (yes_text ++ derivation_text s all) (response_value response))
          (λ response says. (lines, explanation, says)) (rw c.deref.ensures.value at c.lines_response.ensures.response);
    }
