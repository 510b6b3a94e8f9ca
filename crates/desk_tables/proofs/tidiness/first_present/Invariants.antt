-- What the loop of `first_present` keeps: `none`.
use Rattle.std.proofs.Common.{◌≡◌, ℕ, ◌<◌, false}
use Rattle.attr_sets.specs.Sets.{attributes}
use Rattle.optional_tables.specs.LookUps.{empty_values}
use Rattle.row_store.specs.Rows.{row_at}
use Rattle.desk_tables.specs.Tidiness.{present_among}
use Rattle.desk_tables.proofs.tidiness.first_present.Given as goal

-- none of the attributes so far is one
abbrev pub invariant-loop-attribute : goal.invariant-loop-attribute
invariant-loop-attribute l = record {
  none : (k : ℕ) → k < l.attribute
      → present_among (empty_values (attributes l.nullable)) (attributes l.set) (row_at l.rows l.row) k ≡ false;
}
