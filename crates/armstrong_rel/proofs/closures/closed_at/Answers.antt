-- What is left to prove of `closed_at`: its clause `closure`, where the set stands at the position and
-- where it does not.
use Rattle.std.proofs.Common.{subst}
use Rattle.std.specs.Prelude.{Option, IfSome}
use Rattle.attr_sets.specs.Sets.{attributes}
use Rattle.attr_sets.specs.declared.set.AttrSet.{AttrSet}
use Rattle.dep_model.specs.Theories.{width_of, theory_of}
use Rattle.fd_closure.specs.Closures.{IsClosureOf}
use Rattle.armstrong_rel.proofs.KnownLemmas.{closure_known}
use Rattle.armstrong_rel.proofs.closures.closed_at.Goals as goal

pub returns-in-Some : goal.returns-in-Some
returns-in-Some c =
    let n = width_of c.args.theory.now in
    let ds = theory_of c.args.theory.now in
    let set = attributes c.args.set in
    record {
      closure = subst (λ (found : Option AttrSet). IfSome found (λ closed. IsClosureOf n ds set (attributes closed)))
          c.in-Some.is (c.known_closure.ensures.known n ds c.requires.table);
    }

pub returns-in-None : goal.returns-in-None
returns-in-None c = record {
  closure = closure_known c.args.theory.now c.deps.result.now c.deps.ensures.deps (attributes c.args.set)
      (attributes c.functional_closure.result)
      c.requires.functional c.requires.set c.functional_closure.ensures.closure;
}
