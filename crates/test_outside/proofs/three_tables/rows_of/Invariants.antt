-- What the loop of `rows_of` keeps: each row has one value.
use Rattle.dep_model.specs.Tuples.{IsOver}
use Rattle.test_outside.proofs.three_tables.rows_of.Given as goal

abbrev pub invariant-loop-value : goal.invariant-loop-value
invariant-loop-value l = IsOver 1 l.rows.items
