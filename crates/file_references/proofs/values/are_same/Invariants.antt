-- What the loop of `are_same` keeps: `same`.
use Rattle.std.proofs.Common.{◌≡◌, ◌<◌, ℕ}
use Rattle.dep_model.specs.Tuples.{value_at}
use Rattle.row_store.specs.Rows.{row_at}
use Rattle.file_references.proofs.values.are_same.Given as goal

-- the values so far are equal
abbrev pub invariant-loop-position : goal.invariant-loop-position
invariant-loop-position l = record {
  same : (k : ℕ) → k < l.position → value_at (row_at l.rows l.one) k ≡ value_at (row_at l.rows l.other) k;
}
