-- What the loop of `put_attributes` keeps: the lines of the attributes so far were added.
use Rattle.attr_sets.specs.Sets.{attributes}
use Rattle.desk_measures.specs.Findings.{Adds, FindsBelow}
use Rattle.desk_measures.specs.Measures.{FindsWhere, IsAttributeMeasured}
use Rattle.desk_measures.proofs.measures.put_attributes.Given as goal

abbrev pub invariant-loop-attribute : goal.invariant-loop-attribute
invariant-loop-attribute l =
    Adds (FindsBelow (λ a. FindsWhere (attributes l.own a)
    (IsAttributeMeasured l.schema l.rows (attributes l.lhs) a)) l.attribute) l.fn.text.items l.text.items l.clean
