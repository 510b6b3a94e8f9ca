-- What is left to prove of `known_closure`: its clause `known`, where the set stands at the position.
use Rattle.std.proofs.Common.{sym, subst}
use Rattle.attr_sets.specs.Attributes.{Attributes}
use Rattle.attr_sets.specs.Sets.{attributes}
use Rattle.fd_closure.specs.Closures.{IsClosureOf, IsKnownClosure}
use Rattle.fd_closure.proofs.known.known_closure.Goals as goal

pub returns-then-eq : goal.returns-then-eq
returns-then-eq c = record {
  known = λ n ds all.
      let known = c.in-Some.known.now in
      let is : IsKnownClosure n ds known =
      subst (IsKnownClosure n ds) (sym c.in-Some.ensures.lookup.1) (all c.args.position known c.in-Some.ensures.lookup.3.0) in
      subst (λ (x : Attributes). IsClosureOf n ds x (attributes known.closed)) (c.eq.ensures.same.0 c.if-eq.true) is;
}
