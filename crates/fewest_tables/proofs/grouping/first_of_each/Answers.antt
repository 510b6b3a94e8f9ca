-- What is left to prove of `first_of_each`: its clause, and that the invariant of its loop holds at first and stays.
use Rattle.std.proofs.Common.{◌≡◌, ◌<◌, ◌++◌, [], List, length, drop, refl, sym, ap, ◌∙◌, append-nil}
use Rattle.std.proofs.lemmas.List.{drop_all}
use Rattle.fd_closure.specs.declared.known.KnownClosure.{KnownClosure}
use Rattle.fewest_tables.specs.Alike.{firsts_after}
use Rattle.fewest_tables.specs.FewestSteps.{same_closure}
use Rattle.fewest_tables.proofs.LoopLemmas.{first_tried}
use Rattle.fewest_tables.proofs.grouping.first_of_each.Goals as goal

pub loop-one-init : goal.loop-one-init
loop-one-init c = rw c.new-firsts.ensures.items refl

pub loop-one-preserved : goal.loop-one-preserved
loop-one-preserved c =
    let known = c.args.known.now in
    let i = c.loop-one.one-index in
    let d : KnownClosure = record { of = record { 0 = 0 }; closed = record { 0 = 0 } } in
    let lt : i < length known = c.loop-one-test.true in
    first_tried known c.loop-one.firsts.items _ i d lt c.loop-one.invariant c.in_ok-add_first.ensures.added

pub returns : goal.returns
returns c =
    let firsts = c.loop-one.firsts.items in
    let over : drop c.loop-one.one-index c.args.known.now ≡ [] = drop_all c.loop-one.one-index c.args.known.now c.loop-one-test.false in
    record {
      firsts = sym (c.loop-one.invariant ∙ ap (λ (l : List KnownClosure). firsts ++ firsts_after same_closure firsts l) over ∙ append-nil firsts);
    }
