-- What is left to prove of `mistyped`: that a round of its loop keeps the invariant, by `mistyped_next`.
use Rattle.std.proofs.Common.{not, ◌∙◌}
use Rattle.attr_sets.proofs.AttributesLemmas.{same_at}
use Rattle.desk_measures.proofs.FlagLemmas.{mistyped_next, is_mistyped_at}
use Rattle.desk_measures.proofs.columns.mistyped.Goals as goal

pub loop-row-preserved : goal.loop-row-preserved
loop-row-preserved c =
    let s = c.args.schema.now in
    let rows = c.args.rows.now in
    let next = mistyped_next s rows c.args.attribute c.loop-row.row c.loop-row.flags.items _ (not c.fits_column.result)
    c.loop-row.invariant.count c.in_ok-push.ensures.items c.loop-row.invariant.told
    (is_mistyped_at s rows c.args.attribute c.loop-row.row c.type_of-column.result c.contains-nullable.result c.fits_column.result _
    c.type_of-column.ensures.column (c.contains-nullable.ensures.member ∙ same_at c.nullable.ensures.nullable _) c.value_of-value.ensures.value
    c.fits_column.ensures.fits) in
    record { count = next.0; told = next.1 }
