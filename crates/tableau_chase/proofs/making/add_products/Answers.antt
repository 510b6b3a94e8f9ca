-- What is left to prove of `add_products`: its clauses `too_many` and `made`, what `add_exchanged`
-- requires, and that the invariant of its loop holds at first and stays, by `MakingLemmas` and
-- `PoolLemmas`.
use Rattle.std.proofs.Common.{◌≡◌, ℕ, ◌+◌, ◌<◌, List, ◌∙◌, length, take, get_or, subst, refl, arith}
use Rattle.std.proofs.lemmas.List.{length-take-le, get_or_read, get_or_default}
use Rattle.attr_sets.specs.Sets.{attributes}
use Rattle.tableau_chase.specs.Making.{IsExchangedRow, IsExchangedWith, Overflows}
use Rattle.tableau_chase.proofs.PoolLemmas.{adds_none, adds_like}
use Rattle.tableau_chase.proofs.MakingLemmas.{IsProductOf, product_parts, product_none, product_old, product_not, parts_to, parts_from, parts_more, parts_overflow, leads_read, group_read, group_within, group_over}
use Rattle.tableau_chase.proofs.making.add_products.Goals as goal
use Rattle.tableau_chase.proofs.making.add_products.Goals.{then-index-i+in-Ok, else-index-i}

pub loop-i-init : goal.loop-i-init
loop-i-init c =
    let t = c.args.pool.now.rows.items in
    let n = c.args.width in
    let z = attributes c.union-both.result in
    let agreeing = c.in_ok-agreeing.agreeing.items in
    let firsts = c.in_ok-firsts.firsts.items in
    let groups = c.in_ok-groups.groups.items in
    record {
      parts = product_parts n c.args.count (attributes c.args.lhs) (attributes c.args.rhs) z (attributes c.difference.result) (attributes c.union-rest.result) (attributes c.full.result) t c.deref.result.now c.deref-2.result.now c.deref-3.result.now
          agreeing firsts c.in_ok-seconds.seconds.items c.deref-4.result.now c.deref-5.result.now groups c.requires.count c.requires.over c.union-both.ensures.members c.difference.ensures.members c.union-rest.ensures.members c.full.ensures.members
          c.deref.ensures.value c.deref-2.ensures.value c.deref-3.ensures.value c.deref-4.ensures.value c.deref-5.ensures.value c.in_ok-agreeing.ensures.leaders c.in_ok-firsts.ensures.leaders c.in_ok-seconds.ensures.leaders c.in_ok-groups.ensures.followers;
      pool = c.requires.pool;
      adds = adds_none (IsProductOf n z (take c.args.count t) agreeing firsts groups 0) t (product_none n z (take c.args.count t) agreeing firsts groups);
    }

pub add_exchanged-requires-clause-seconds : goal.add_exchanged-requires-clause-seconds
add_exchanged-requires-clause-seconds c k d l =
    let i = c.loop-i.i in
    let group : List ℕ = c.numbers.result.now in
    let group_is = group_read _ _ _ _ _ _ _ _ _ c.loop-i.invariant.parts i c.index-then-index-i.result.now c.index-group.result.now group c.loop-i-test.true
    c.index-then-index-i.ensures c.numbers.ensures.numbers c.index-group.ensures in
    subst (λ (j : ℕ). j < length c.loop-i.pool.rows.items) (get_or_default group k d d l)
    (group_within _ _ _ _ _ _ _ _ _ c.loop-i.invariant.parts c.loop-i.pool.rows.items c.loop-i.invariant.adds.extends i c.loop-i-test.true group group_is k d l)

pub add_exchanged-requires-clause-seconds_over : goal.add_exchanged-requires-clause-seconds_over
add_exchanged-requires-clause-seconds_over c k d l =
    let i = c.loop-i.i in
    let group : List ℕ = c.numbers.result.now in
    let group_is = group_read _ _ _ _ _ _ _ _ _ c.loop-i.invariant.parts i c.index-then-index-i.result.now c.index-group.result.now group c.loop-i-test.true
    c.index-then-index-i.ensures c.numbers.ensures.numbers c.index-group.ensures in
    group_over _ _ _ _ _ _ _ _ _ c.loop-i.invariant.parts c.loop-i.pool.rows.items c.loop-i.invariant.adds.extends i c.loop-i-test.true group group_is k d l

pub returns-in-Err-clause-too_many : goal.returns-in-Err-clause-too_many
returns-in-Err-clause-too_many c e =
    let i = c.loop-i.i in
    let group : List ℕ = c.numbers.result.now in
    let group_is = group_read _ _ _ _ _ _ _ _ _ c.loop-i.invariant.parts i c.index-then-index-i.result.now c.index-group.result.now group c.loop-i-test.true
    c.index-then-index-i.ensures c.numbers.ensures.numbers c.index-group.ensures in
    let over : Overflows (IsExchangedWith c.args.width (attributes c.union-both.result) c.loop-i.pool.rows.items i group) c.args.limit c.loop-i.pool.rows.items = c.in-Err.ensures.too_many e in
    parts_overflow _ _ _ _ _ _ _ _ _ c.loop-i.invariant.parts c.loop-i.pool.rows.items c.loop-i.invariant.adds.extends i c.loop-i-test.true group group_is c.args.limit
    (leads_read _ _ _ _ _ _ _ _ _ c.loop-i.invariant.parts c.loop-i.i c.index.result.now c.loop-i-test.true c.index.ensures c.if-index-i.true) c.loop-i.invariant.adds over

pub loop-i-preserved : goal.loop-i-preserved
loop-i-preserved c = elim c.if-index-i.branch [
  | then-index-i+in-Ok w ↦
      let i = c.loop-i.i in
      let group : List ℕ = w.numbers.result.now in
      let group_is = group_read _ _ _ _ _ _ _ _ _ c.loop-i.invariant.parts i w.index-then-index-i.result.now w.index-group.result.now group c.loop-i-test.true
      w.index-then-index-i.ensures w.numbers.ensures.numbers w.index-group.ensures in
      rw w.pool-is (record {
        parts = c.loop-i.invariant.parts;
        pool = w.in-Ok.ensures.pool;
        adds = parts_more _ _ _ _ _ _ _ _ _ c.loop-i.invariant.parts c.loop-i.pool.rows.items c.loop-i.invariant.adds.extends i c.loop-i-test.true group group_is w.add_exchanged.new.pool.rows.items
            (leads_read _ _ _ _ _ _ _ _ _ c.loop-i.invariant.parts c.loop-i.i c.index.result.now c.loop-i-test.true c.index.ensures w.if-index-i.true) c.loop-i.invariant.adds w.in-Ok.ensures.made;
      })
  | else-index-i w ↦
      let t = c.args.pool.now.rows.items in
      let front = take c.args.count t in
      let z = attributes c.union-both.result in
      let agreeing = c.in_ok-agreeing.agreeing.items in
      let firsts = c.in_ok-firsts.firsts.items in
      let groups = c.in_ok-groups.groups.items in
      let i = c.loop-i.i in
      rw w.pool-is (record {
        parts = c.loop-i.invariant.parts;
        pool = c.loop-i.invariant.pool;
        adds = adds_like (IsProductOf c.args.width z front agreeing firsts groups i) (IsProductOf c.args.width z front agreeing firsts groups (i + 1)) t c.loop-i.pool.rows.items
            (product_old c.args.width z front agreeing firsts groups i (i + 1) refl) (λ p h. product_not c.args.width z front agreeing firsts groups i (i + 1) refl p (λ (e : get_or firsts i 0 ≡ i). w.if-index-i.false (get_or_read firsts i c.index.result.now (omega (arith, c.loop-i-test.true, c.loop-i.invariant.parts.first.one_each, length-take-le c.args.count t c.requires.count)) c.index.ensures 0 ∙ e)) h) c.loop-i.invariant.adds;
      })
]

pub returns-clause-made : goal.returns-clause-made
returns-clause-made c =
    let t = c.args.pool.now.rows.items in
    let i = c.loop-i.i in
    let agreeing = c.in_ok-agreeing.agreeing.items in
    let firsts = c.in_ok-firsts.firsts.items in
    let groups = c.in_ok-groups.groups.items in
    let n = c.args.width in
    let z = attributes c.union-both.result in
    adds_like (IsProductOf n z (take c.args.count t) agreeing firsts groups i) (IsExchangedRow n (attributes c.args.lhs) (attributes c.args.rhs) (take c.args.count t)) t c.loop-i.pool.rows.items
    (λ p h. parts_to n (attributes c.args.lhs) (attributes c.args.rhs) z t c.args.count agreeing firsts groups c.loop-i.invariant.parts i p (omega (arith, c.loop-i.auto.i-end)) h)
    (λ p h. parts_from n (attributes c.args.lhs) (attributes c.args.rhs) z t c.args.count agreeing firsts groups c.loop-i.invariant.parts i p c.loop-i-test.false h) c.loop-i.invariant.adds
