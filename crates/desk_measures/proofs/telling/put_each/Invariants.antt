-- What the loop of `put_each` keeps: what is told of the dependencies so far was added.
use Rattle.desk_measures.specs.Findings.{Adds, FindsBelow}
use Rattle.desk_measures.specs.Offences.{OfDependency}
use Rattle.desk_measures.specs.BreachFindings.{Tells}
use Rattle.desk_measures.proofs.telling.put_each.Given as goal

abbrev pub invariant-loop-k : goal.invariant-loop-k
invariant-loop-k l =
    Adds (FindsBelow (OfDependency l.schema (Tells l.told l.schema l.rows)) l.k) l.fn.text.items l.text.items l.clean
