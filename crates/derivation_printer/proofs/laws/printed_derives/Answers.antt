-- What is left to prove of `printed_derives`: the law.
use Rattle.derivation_printer.proofs.PrintedDerivations.{printed_derivation}
use Rattle.derivation_printer.proofs.laws.printed_derives.Goals as goal

pub returns : goal.returns
returns c = record { law = λ s lines d are given concludes few. printed_derivation s lines d are given concludes few }
