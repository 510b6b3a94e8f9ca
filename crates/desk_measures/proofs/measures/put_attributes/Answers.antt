-- What is left to prove of `put_attributes`: that a round of its loop keeps the invariant, by `adds_step`.
use Rattle.std.proofs.Common.{Bool, subst}
use Rattle.attr_sets.specs.Sets.{attributes}
use Rattle.desk_measures.specs.Findings.{Adds}
use Rattle.desk_measures.specs.Measures.{FindsWhere, IsAttributeMeasured}
use Rattle.desk_measures.proofs.FindingLemmas.{adds_step}
use Rattle.desk_measures.proofs.measures.put_attributes.Goals as goal

pub loop-attribute-preserved : goal.loop-attribute-preserved
loop-attribute-preserved c =
    let Finds = IsAttributeMeasured c.args.schema.now c.args.rows.now (attributes c.args.lhs) in
    let k = c.loop-attribute.attribute in
    adds_step (λ a. FindsWhere (attributes c.args.own a) (Finds a)) k _ _ _ c.loop-attribute.clean c.in_ok-one.one
    c.both-clean.result c.loop-attribute.invariant
    (subst (λ (b : Bool). Adds (FindsWhere b (Finds k)) c.loop-attribute.text.items c.put_attribute.new.text.items c.in_ok-one.one)
    c.contains-is_own.ensures.member c.in_ok-one.ensures.added)
    c.both-clean.ensures.both
