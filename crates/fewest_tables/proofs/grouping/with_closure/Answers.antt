-- What is left to prove of `with_closure`: its clause `known`.
use Rattle.std.proofs.Common.{refl}
use Rattle.attr_sets.specs.Sets.{attributes}
use Rattle.fewest_tables.proofs.LoopLemmas.{closure_known}
use Rattle.fewest_tables.proofs.grouping.with_closure.Goals as goal

pub returns : goal.returns
returns c = record {
  set = refl;
  known = closure_known c.args.theory.now c.deps.result.now c.deps.ensures.deps (attributes c.args.left)
      (attributes c.functional_closure.result) c.requires.within c.functional_closure.ensures.closure;
}
