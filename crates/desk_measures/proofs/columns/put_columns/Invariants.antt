-- What the loop of `put_columns` keeps: the lines of the columns so far were added.
use Rattle.desk_measures.specs.Findings.{Adds, FindsBelow}
use Rattle.desk_measures.specs.Measures.{IsColumnFound}
use Rattle.desk_measures.proofs.columns.put_columns.Given as goal

abbrev pub invariant-loop-attribute : goal.invariant-loop-attribute
invariant-loop-attribute l =
    Adds (FindsBelow (IsColumnFound l.schema l.rows) l.attribute) l.fn.text.items l.text.items l.clean
