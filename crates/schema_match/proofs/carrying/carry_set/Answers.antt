-- What is left to prove of `carry_set`: that a round of its loop keeps the invariant, by
-- `namesake_member` and `namesake_outside`.
use Rattle.std.proofs.Common.{refl, sym, ◌∙◌}
use Rattle.attr_sets.specs.Sets.{attributes}
use Rattle.schema_match.proofs.CarryLemmas.{namesake_member, namesake_outside}
use Rattle.schema_match.proofs.carrying.carry_set.Goals.{then-contains, else-contains}
use Rattle.schema_match.proofs.carrying.carry_set.Goals as goal

pub loop-a-preserved : goal.loop-a-preserved
loop-a-preserved c =
    let a = c.loop-a.a in
    let xs = c.args.namesakes.now in
    let x = attributes c.args.set in
    elim c.if-contains.branch [
      | then-contains w ↦
          rw w.carried-is (namesake_member a xs x (attributes c.loop-a.carried) (attributes w.with-carried.result) _
          (sym c.contains.ensures.member ∙ w.if-contains.true) refl w.with-carried.ensures.members c.loop-a.invariant)
      | else-contains w ↦
          rw w.carried-is (namesake_outside a xs x (attributes c.loop-a.carried)
          (sym c.contains.ensures.member ∙ w.if-contains.false) c.loop-a.invariant)
    ]
