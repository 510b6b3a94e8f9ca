-- What is left to prove of `search_above`: its clause `found`, what `add_minimal` and
-- `search_above` require, and that the invariant of its loop holds at first and stays, by
-- `LeaderLemmas` and `SearchLemmas`.
use Rattle.std.proofs.Common.{arith, ◌≡◌, ◌<◌, ◌+◌, ℕ, List, Vec, Global, true, sym, subst}
use Rattle.attr_sets.specs.Attributes.{Attributes, below, union}
use Rattle.attr_sets.specs.Sets.{attributes}
use Rattle.dep_model.specs.Deps.{dependencies_of}
use Rattle.dep_model.specs.declared.dep.Dep.{Dep}
use Rattle.dep_model.specs.Tuples.{Relation}
use Rattle.fd_discovery.specs.Leaders.{AreLed}
use Rattle.fd_discovery.specs.Searching.{AreFound, AreUndetermined}
use Rattle.fd_discovery.proofs.LeaderLemmas.{led_with}
use Rattle.fd_discovery.proofs.SearchLemmas.{larger_in, larger_above, found_at_larger, found_past, found_through, found_up_to}
use Rattle.fd_discovery.proofs.searching.+search_above.Goals as goal
use Rattle.fd_discovery.proofs.searching.+search_above.Goals.{In_ok-finer, then-not-is_empty+in_ok-finer+in_ok-add_minimal+in_ok-search_above, else-not-is_empty}

pub loop-attribute-init : goal.loop-attribute-init
loop-attribute-init t c = record { found = λ r led found. found_up_to _ r _ _ found }

-- the rows by their leaders on the larger set
finer_led : (t : _) (c : In_ok-finer t) (r : Relation) (given : List ℕ) → AreLed r c.args.table.now (attributes c.args.set) c.args.leaders.now
    → given ≡ c.in_ok-finer.finer.items → AreLed r c.args.table.now (attributes c.with-larger.result) given
finer_led t c r given led is =
    led_with r c.args.table.now (attributes c.args.set) (attributes c.with-larger.result) c.loop-attribute.attribute c.args.leaders.now
    c.column-codes.result.now c.index.result.now c.rows-order.result.now c.in_ok-finer.finer.items given led
    (omega (arith, c.loop-attribute-test.true, c.requires.at_most_width)) c.column-codes.ensures.codes c.rows-order.ensures.rows c.index.ensures
    c.with-larger.ensures.members (c.in_ok-finer.ensures.leaders r (attributes c.args.set) c.loop-attribute.attribute) is

pub add_minimal-requires-clause-rows : goal.add_minimal-requires-clause-rows
add_minimal-requires-clause-rows t c =
    let (r, led) = c.requires.rows in
    (r, finer_led t ((goal.at.add_minimal-requires-clause-rows t c).In_ok-finer) r _ led c.deref-then-not-is_empty.ensures.value)

pub search_above-requires : goal.search_above-requires
search_above-requires t c =
    let (r, led) = c.requires.rows in
    let low : c.loop-attribute.attribute < c.args.table.now.width = omega (arith, c.loop-attribute-test.true, c.requires.at_most_width) in
    let n : ℕ = c.args.table.now.width in
    let i : ℕ = c.loop-attribute.attribute in
    let set : Attributes = attributes c.args.set in
    let larger : Attributes = attributes c.with-larger.result in (
      omega (arith, c.decreases, c.loop-attribute-test.true),
      (
        c.requires.width,
        (
          omega (arith, low),
          (
            larger_in n c.args.bound i set c.requires.set c.requires.above c.requires.at_most_width c.loop-attribute-test.true
                larger c.with-larger.ensures.members,
            (
              larger_above n c.args.bound i set c.requires.set c.requires.above c.requires.at_most_width c.loop-attribute-test.true
                  larger c.with-larger.ensures.members,
              (r, finer_led t ((goal.at.search_above-requires t c).In_ok-finer) r _ led c.deref-then-not-is_empty-2.ensures.value),
            ),
          ),
        ),
      ),
    )

pub loop-attribute-preserved : goal.loop-attribute-preserved
loop-attribute-preserved t c =
    let n : ℕ = c.args.table.now.width in
    let i : ℕ = c.loop-attribute.attribute in
    let bound : ℕ = c.args.bound in
    let set : Attributes = attributes c.args.set in
    let larger : Attributes = attributes c.with-larger.result in
    let wanted : Attributes = attributes c.attributes_not_given-wanted.result in
    let old : List Dep = c.loop-attribute.found.items in
    let low : i < n = omega (arith, c.loop-attribute-test.true, c.requires.at_most_width) in
    let given : AreUndetermined n (dependencies_of old) larger wanted =
    subst (λ (ds : List Dep). AreUndetermined n (dependencies_of ds) larger wanted) c.deref.ensures.value
    c.attributes_not_given-wanted.ensures.rest in
    elim c.if-not-is_empty.branch [
      | then-not-is_empty+in_ok-finer+in_ok-add_minimal+in_ok-search_above w ↦ record {
        found = λ r led start.
            let before : AreFound n r (union set (below i)) n (dependencies_of old) =
            c.loop-attribute.invariant.found r led start in
            let led_by = λ (given : List ℕ) (is : given ≡ w.in_ok-finer.finer.items). led_with r c.args.table.now set larger i c.args.leaders.now w.column-codes.result.now
            w.index.result.now w.rows-order.result.now w.in_ok-finer.finer.items given led low
            w.column-codes.ensures.codes w.rows-order.ensures.rows w.index.ensures c.with-larger.ensures.members
            (w.in_ok-finer.ensures.leaders r set i) is in
            let inside = larger_in n bound i set c.requires.set c.requires.above c.requires.at_most_width c.loop-attribute-test.true
            larger c.with-larger.ensures.members in
            let here = found_at_larger n bound i set c.requires.set c.requires.above c.requires.at_most_width
            c.loop-attribute-test.true larger c.with-larger.ensures.members r (dependencies_of old) before in
            let added = w.in_ok-add_minimal.ensures.found r (led_by w.deref-then-not-is_empty.result.now w.deref-then-not-is_empty.ensures.value) inside given here in
            let through = w.in_ok-search_above.ensures.found r (led_by w.deref-then-not-is_empty-2.result.now w.deref-then-not-is_empty-2.ensures.value) added in
            subst (λ (v : Vec Dep Global). AreFound n r (union set (below (i + 1))) n (dependencies_of v.items))
            (sym w.found-is)
            (found_through n bound i set c.requires.set c.requires.above c.requires.at_most_width c.loop-attribute-test.true larger
            c.with-larger.ensures.members r _ through);
      }
      | else-not-is_empty w ↦
          let yes : c.is_empty.result ≡ true = grind (arith, w.if-not-is_empty.false) in
          record {
            found = λ r led start.
                let before : AreFound n r (union set (below i)) n (dependencies_of old) =
                c.loop-attribute.invariant.found r led start in
                subst (λ (v : Vec Dep Global). AreFound n r (union set (below (i + 1))) n (dependencies_of v.items))
                (sym w.found-is)
                (found_past n bound i set c.requires.set c.requires.above c.requires.at_most_width c.loop-attribute-test.true larger
                c.with-larger.ensures.members r (dependencies_of old) wanted before given
                (c.is_empty.ensures.empty.0 yes));
          }
    ]

pub returns : goal.returns
returns t c = record {
  found = λ r led start.
      let end : c.loop-attribute.attribute ≡ c.args.bound =
      omega (arith, c.loop-attribute-test.false, c.loop-attribute.auto.attribute-end) in
      let all = c.loop-attribute.invariant.found r led start in
      subst (λ (i : ℕ). AreFound c.args.table.now.width r (union (attributes c.args.set) (below i)) c.args.table.now.width
      (dependencies_of c.loop-attribute.found.items)) end all;
}
