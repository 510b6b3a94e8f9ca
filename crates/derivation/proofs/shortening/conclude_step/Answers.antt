-- What is left to prove of `conclude_step`: its clause `concluded`.
use Rattle.std.proofs.Common.{ap}
use Rattle.derivation.specs.Trees.{Tree, step}
use Rattle.derivation.specs.Derivs.{step_of}
use Rattle.derivation.proofs.shortening.conclude_step.Goals as goal

pub returns : goal.returns
returns c = record {
  concluded = λ t from. record {
    same = ap (λ (v : Tree). step (step_of c.args.rule) v) from.same;
    only = c.step_dep-dep.ensures.only t from.only;
  };
}
