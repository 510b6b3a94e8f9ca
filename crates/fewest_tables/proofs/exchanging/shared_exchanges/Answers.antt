-- What is left to prove of `shared_exchanges`: its clause, and that the invariant of its loop holds at first and stays.
use Rattle.std.proofs.Common.{◌<◌, ◌++◌, List, map, length, get_or, take_all, refl, sym, ap, ◌∙◌}
use Rattle.std.specs.List.{flat_map}
use Rattle.dep_model.specs.Dependencies.{Dependency}
use Rattle.fd_closure.specs.declared.known.KnownClosure.{KnownClosure}
use Rattle.fewest_tables.specs.FewestSteps.{group_with, shared_exchanges}
use Rattle.fewest_tables.proofs.LoopLemmas.{mapped_more}
use Rattle.fewest_tables.proofs.exchanging.shared_exchanges.Goals as goal

pub loop-first-init : goal.loop-first-init
loop-first-init c = rw c.new-rules.ensures.items refl

pub loop-first-preserved : goal.loop-first-preserved
loop-first-preserved c =
    let firsts = c.args.firsts.now in
    let i = c.loop-first.first-index in
    let d : KnownClosure = record { of = record { 0 = 0 }; closed = record { 0 = 0 } } in
    let lt : i < length firsts = c.loop-first-test.true in
    let make = group_with c.args.lefts.now in
    c.in_ok-add_group.ensures.added
    ∙ ap (λ (l : List Dependency). l ++ shared_exchanges (make (get_or firsts i d))) c.loop-first.invariant
    ∙ sym (mapped_more shared_exchanges make firsts i d lt)

pub returns : goal.returns
returns c = record {
  rules = c.loop-first.invariant
      ∙ ap (λ (l : List KnownClosure). flat_map shared_exchanges (map (group_with c.args.lefts.now) l)) (take_all c.loop-first.first-index c.args.firsts.now c.loop-first-test.false);
}
