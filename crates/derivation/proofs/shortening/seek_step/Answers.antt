-- What is left to prove of `seek_step`: what it answers in the cases `Found` and `Whole`, by
-- `found_step`.
use Rattle.dep_model.specs.Deps.{dependency_of}
use Rattle.derivation.specs.Trees.{step}
use Rattle.derivation.specs.Derivs.{tree_of, step_of}
use Rattle.derivation.proofs.ShorteningLemmas.{found_step}
use Rattle.derivation.proofs.shortening.seek_step.Goals as goal

pub returns-in-Found : goal.returns-in-Found
returns-in-Found c = record {
  sought = λ t old. found_step c.args.theory.now (step_of c.args.rule) t (dependency_of c.args.sought) (tree_of c.in-Found.part.value) (rw c.in-Found.is at old);
}

pub returns-in-Whole : goal.returns-in-Whole
returns-in-Whole c = record {
  sought = λ t old.
      let all = rw c.in-Whole.is at old in
      c.seek_root.ensures.sought c.args.theory.now (step (step_of c.args.rule) t) (c.conclude_step.ensures.concluded t all.0) (λ u below. all.1 u below);
}
