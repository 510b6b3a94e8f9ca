-- What is left to prove of `group_with`: its clause, and that the invariant of its loop holds at first and stays.
use Rattle.std.proofs.Common.{◌<◌, List, length, refl, ap, ◌∙◌, take_all}
use Rattle.dep_model.specs.Plans.{schemes_of}
use Rattle.fd_closure.specs.declared.known.KnownClosure.{KnownClosure}
use Rattle.fewest_tables.specs.FewestSteps.{group_with}
use Rattle.fewest_tables.proofs.LoopLemmas.{group_more}
use Rattle.fewest_tables.proofs.grouping.group_with.Goals as goal

pub loop-other-init : goal.loop-other-init
loop-other-init c = rw c.new-group.ensures.items refl

pub loop-other-preserved : goal.loop-other-preserved
loop-other-preserved c =
    let known = c.args.known.now in
    let i = c.loop-other.other-index in
    let d : KnownClosure = record { of = record { 0 = 0 }; closed = record { 0 = 0 } } in
    let lt : i < length known = c.loop-other-test.true in
    group_more known c.args.one i d (schemes_of c.loop-other.group.items) _ lt c.loop-other.invariant c.in_ok-add_alike.ensures.added

pub returns : goal.returns
returns c = record {
  group = c.loop-other.invariant
      ∙ ap (λ (l : List KnownClosure). group_with l c.args.one) (take_all c.loop-other.other-index c.args.known.now c.loop-other-test.false);
}
