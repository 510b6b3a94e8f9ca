-- What the loop of `numbers_of_few` keeps: `numbered`.
use Rattle.dep_model.specs.Tuples.{value_at}
use Rattle.row_groups.specs.Numberings.{AreNumbered}
use Rattle.row_groups.proofs.NumberingLemmas.{lent_bytes}
use Rattle.row_store.specs.Rows.{row_at}
use Rattle.row_groups.proofs.interning.numbers_of_few.Given as goal

-- the rows so far have these numbers
abbrev pub invariant-loop-row : goal.invariant-loop-row
invariant-loop-row l = record {
  numbered : AreNumbered (λ i. value_at (row_at l.rows i) l.attribute) l.row (lent_bytes l.values.keys) l.numbers.items;
}
