-- What is left to prove of `put_columns`: that a round of its loop keeps the invariant, by `adds_step`.
use Rattle.desk_measures.specs.Measures.{IsColumnFound}
use Rattle.desk_measures.proofs.FindingLemmas.{adds_step}
use Rattle.desk_measures.proofs.columns.put_columns.Goals as goal

pub loop-attribute-preserved : goal.loop-attribute-preserved
loop-attribute-preserved c =
    adds_step (IsColumnFound c.args.schema.now c.args.rows.now)
    c.loop-attribute.attribute _ _ _ c.loop-attribute.clean c.in_ok-own.own c.both-clean.result c.loop-attribute.invariant
    c.in_ok-own.ensures.added c.both-clean.ensures.both
