-- What is left to prove of `least_of`: what it answers in the case `Found`, by `least_part`.
use Rattle.std.proofs.Common.{refl}
use Rattle.std.specs.Prelude.{Some}
use Rattle.derivation.specs.Derivs.{tree_of}
use Rattle.derivation.proofs.ShorteningLemmas.{least_part}
use Rattle.derivation.proofs.shortening.least_of.Goals as goal

pub returns-in-Found : goal.returns-in-Found
returns-in-Found c = record {
  least = λ t whole.
      least_part c.args.theory.now t (tree_of c.args.whole.deriv.value) c.in-Some.dep (record { deriv = c.in-Found.deriv; dep = Some c.in-Some.dep })
      whole.same (rw c.in-Some.is at whole.only) refl c.in-Found.ensures.sought;
}
