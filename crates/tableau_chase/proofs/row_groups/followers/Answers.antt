-- What is left to prove of `followers`: its clause `followers` and that the invariant of its loop
-- holds at first and stays, by `GroupLemmas`.
use Rattle.std.proofs.Common.{◌≡◌, ℕ, ◌+◌, ◌<◌, List, ◌∙◌, ◌++◌, [], ◌∷◌, get_or, length, ap, refl, arith}
use Rattle.std.proofs.lemmas.List.{get_or_read}
use Rattle.tableau_chase.proofs.GroupLemmas.{followers_none, followers_same, followers_more, followers_all}
use Rattle.tableau_chase.proofs.row_groups.followers.Goals as goal
use Rattle.tableau_chase.proofs.row_groups.followers.Goals.{then-seconds-j+in_ok-add, else-seconds-j}

pub loop-j-init : goal.loop-j-init
loop-j-init c = followers_none c.args.leaders.now c.args.seconds.now c.in_ok-groups.groups.items c.in_ok-groups.ensures.count c.in_ok-groups.ensures.none

pub loop-j-preserved : goal.loop-j-preserved
loop-j-preserved c =
    let j = c.loop-j.j in
    let low : j < length c.args.leaders.now = c.loop-j-test.true in
    elim c.if-seconds-j.branch [
      | then-seconds-j+in_ok-add w ↦
          let g = get_or c.args.leaders.now j 0 in
          let led_low : g < length c.args.leaders.now = c.requires.within j low in
          let old : List ℕ = w.index_mut.result.now in
          let is : old ≡ get_or c.loop-j.groups.items g [] = get_or_read c.loop-j.groups.items g old (omega (arith, led_low, c.loop-j.invariant.one_each)) w.index_mut.ensures.value [] in
          let added : w.add.new.self ≡ get_or c.loop-j.groups.items g [] ++ j ∷ [] = w.in_ok-add.ensures.added ∙ ap (λ (xs : List ℕ). xs ++ j ∷ []) is in
          rw w.groups-is (followers_more c.args.leaders.now c.args.seconds.now j (j + 1) c.loop-j.groups.items refl low led_low w.add.new.self added c.loop-j.invariant)
      | else-seconds-j w ↦ rw w.groups-is (followers_same c.args.leaders.now c.args.seconds.now j (j + 1) c.loop-j.groups.items refl w.if-seconds-j.false c.loop-j.invariant)
    ]

pub returns : goal.returns
returns c = record { followers = followers_all c.args.leaders.now c.args.seconds.now c.loop-j.j c.loop-j.groups.items c.loop-j-test.false c.loop-j.invariant }
