-- What is left to prove of `put_one`: what `put_told` requires, and its clause `added`.
use Rattle.std.proofs.Common.{◌≡◌, ◌<◌, ◌≤◌, Option, length, refl, subst}
use Rattle.std.specs.Borrow.{Bor}
use Rattle.std.specs.List.{HoldsAt}
use Rattle.std.specs.Prelude.{MatchOption}
use Rattle.dep_model.specs.declared.dep.Dep.{Dep}
use Rattle.desk_measures.specs.BreachFindings.{Tells}
use Rattle.desk_measures.proofs.FindingLemmas.{adds_if_given, adds_of_none, given_none, given_some, given_within}
use Rattle.desk_measures.proofs.telling.put_one.Goals as goal

pub put_told-requires-clause-dep : goal.put_told-requires-clause-dep
put_told-requires-clause-dep c =
    let ds = c.deps.result.now in
    let look = subst (λ (r : Option (Bor Dep)). MatchOption r (length ds ≤ c.args.k)
    (λ (x : Bor Dep). (c.args.k < length ds) × HoldsAt (λ (y : Dep). x.now ≡ y) ds c.args.k)) c.in-Some.is c.get.ensures.lookup.3 in
    given_within c.args.schema.now c.args.k c.in-Some.dep.now
    (given_some c.args.schema.now ds c.args.k c.in-Some.dep.now c.deps.ensures.deps look.0 look.1)

pub returns-in-Some : goal.returns-in-Some
returns-in-Some c =
    let ds = c.deps.result.now in
    let look = subst (λ (r : Option (Bor Dep)). MatchOption r (length ds ≤ c.args.k)
    (λ (x : Bor Dep). (c.args.k < length ds) × HoldsAt (λ (y : Dep). x.now ≡ y) ds c.args.k)) c.in-Some.is c.get.ensures.lookup.3 in
    record {
      added = adds_if_given _ c.args.schema.now (Tells c.args.told c.args.schema.now c.args.rows.now) c.args.k _ _ c.in-Some.dep.now
          (given_some c.args.schema.now ds c.args.k c.in-Some.dep.now c.deps.ensures.deps look.0 look.1) c.put_told.ensures.added;
    }

pub returns-in-None : goal.returns-in-None
returns-in-None c =
    let ds = c.deps.result.now in
    let high = subst (λ (r : Option (Bor Dep)). MatchOption r (length ds ≤ c.args.k)
    (λ (x : Bor Dep). (c.args.k < length ds) × HoldsAt (λ (y : Dep). x.now ≡ y) ds c.args.k)) c.in-None.is c.get.ensures.lookup.3 in
    record {
      added = adds_of_none c.args.schema.now (Tells c.args.told c.args.schema.now c.args.rows.now) c.args.k c.args.text.now.items _
          (given_none c.args.schema.now ds c.args.k c.deps.ensures.deps high) refl;
    }
