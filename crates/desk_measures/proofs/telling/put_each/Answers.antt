-- What is left to prove of `put_each`: that a round of its loop keeps the invariant, by `adds_step`.
use Rattle.desk_measures.specs.Offences.{OfDependency}
use Rattle.desk_measures.specs.BreachFindings.{Tells}
use Rattle.desk_measures.proofs.FindingLemmas.{adds_step}
use Rattle.desk_measures.proofs.telling.put_each.Goals as goal

pub loop-k-preserved : goal.loop-k-preserved
loop-k-preserved c =
    adds_step (OfDependency c.args.schema.now (Tells c.args.told c.args.schema.now c.args.rows.now))
    c.loop-k.k _ _ _ c.loop-k.clean c.in_ok-own.own c.both-clean.result c.loop-k.invariant
    c.in_ok-own.ensures.added c.both-clean.ensures.both
