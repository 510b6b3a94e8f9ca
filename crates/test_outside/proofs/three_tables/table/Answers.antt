-- What is left to prove of `table`: that the invariant of its loop stays, where a row is there and where it is not.
use Rattle.std.proofs.Common.{◌≡◌, ◌<◌, ◌∙◌, ℕ, List, All, length, ap, subst, sym, arith}
use Rattle.attr_sets.specs.Sets.{attributes}
use Rattle.dep_model.specs.Projections.{project_tuple}
use Rattle.row_store.specs.Rows.{row_at}
use Rattle.test_outside.proofs.RowLemmas.{one_more}
use Rattle.test_outside.proofs.three_tables.table.Goals as goal
use Rattle.test_outside.proofs.three_tables.table.Goals.{then-row-len+in_ok-push, else-row-len}

pub loop-row-preserved : goal.loop-row-preserved
loop-row-preserved c = elim c.if-row-len.branch [
  | then-row-len+in_ok-push w ↦
      one_more (attributes c.single-scheme.result) c.args.rows.now c.in_ok-columns.columns.items _
      c.loop-row.there.items c.if-row-len.there.items _ c.single-scheme.ensures.members
      c.in_ok-columns.ensures.items c.requires.over (omega (arith, w.if-row-len.true, c.len.ensures.count)) c.loop-row.invariant
      (ap (λ v. v.items) w.there-is ∙ w.in_ok-push.ensures.items)
  | else-row-len w ↦
      subst (λ (items : List ℕ). All (λ i. (i < length c.args.rows.now)
      × (length (project_tuple (attributes c.single-scheme.result) (row_at c.args.rows.now i)) ≡ length c.in_ok-columns.columns.items)) items)
      (sym (ap (λ v. v.items) w.there-is)) c.loop-row.invariant
]
