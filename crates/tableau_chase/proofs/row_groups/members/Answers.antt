-- What is left to prove of `members`: that the invariant of its loop holds at first and stays.
use Rattle.std.proofs.Common.{ℕ, ◌+◌, List, ◌∙◌, ◌++◌, [], ◌∷◌, sym, ap, refl}
use Rattle.attr_sets.specs.Sets.{attributes}
use Rattle.tableau_chase.proofs.row_groups.members.Goals as goal
use Rattle.tableau_chase.proofs.row_groups.members.Goals.{then-contains+in_ok-push, else-contains}
use Rattle.dep_model.proofs.SchemeLemmas.{members_below-none, members_below-one_more, members_below-no_more}

pub loop-a-init : goal.loop-a-init
loop-a-init c = c.new-members.ensures.items ∙ sym (members_below-none (attributes c.args.set))

pub loop-a-preserved : goal.loop-a-preserved
loop-a-preserved c =
    let a = c.loop-a.a in
    let x = attributes c.args.set in
    elim c.if-contains.branch [
      | then-contains+in_ok-push w ↦ rw w.members-is
          (w.in_ok-push.ensures.items ∙ ap (λ (ms : List ℕ). ms ++ a ∷ []) c.loop-a.invariant ∙ sym (members_below-one_more a (a + 1) x refl (sym c.contains.ensures.member ∙ w.if-contains.true)))
      | else-contains w ↦ rw w.members-is (c.loop-a.invariant ∙ sym (members_below-no_more a (a + 1) x refl (sym c.contains.ensures.member ∙ w.if-contains.false)))
    ]
