-- What is left to prove of `add_exchanges`: its clause, and that the invariant of its loop holds at first and stays.
use Rattle.std.proofs.Common.{◌<◌, ◌++◌, List, length, get_or, take, take_all, sym, ap, ◌∙◌, append-nil, append_assoc}
use Rattle.std.specs.List.{flat_map}
use Rattle.attr_sets.specs.Attributes.{Attributes}
use Rattle.attr_sets.specs.Sets.{attributes}
use Rattle.attr_sets.specs.declared.set.AttrSet.{AttrSet}
use Rattle.dep_model.specs.Dependencies.{Dependency}
use Rattle.dep_model.specs.Deps.{dependencies_of}
use Rattle.dep_model.specs.Plans.{schemes_of}
use Rattle.fewest_tables.specs.FewestSteps.{shared_exchange}
use Rattle.fewest_tables.proofs.LoopLemmas.{mapped_more}
use Rattle.fewest_tables.proofs.exchanging.add_exchanges.Goals as goal

pub loop-left-init : goal.loop-left-init
loop-left-init c = sym (append-nil (dependencies_of c.args.rules.now.items))

pub loop-left-preserved : goal.loop-left-preserved
loop-left-preserved c =
    let group = c.args.group.now in
    let i = c.loop-left.left-index in
    let d : AttrSet = record { 0 = 0 } in
    let lt : i < length group = c.loop-left-test.true in
    let make = shared_exchange (attributes c.union_of-together.result) in
    let old = dependencies_of c.args.rules.now.items in
    let this = make (attributes (get_or group i d)) in
    c.in_ok-add_exchange.ensures.added
    ∙ ap (λ (l : List Dependency). l ++ this) c.loop-left.invariant
    ∙ append_assoc old (flat_map make (schemes_of (take i group))) this
    ∙ ap (λ (l : List Dependency). old ++ l) (sym (mapped_more make attributes group i d lt))

pub returns : goal.returns
returns c =
    let old = dependencies_of c.args.rules.now.items in
    record {
      added = c.loop-left.invariant
          ∙ ap (λ (l : List AttrSet). old ++ flat_map (shared_exchange (attributes c.union_of-together.result)) (schemes_of l)) (take_all c.loop-left.left-index c.args.group.now c.loop-left-test.false)
          ∙ ap (λ (x : Attributes). old ++ flat_map (shared_exchange x) (schemes_of c.args.group.now)) c.union_of-together.ensures.members;
    }
