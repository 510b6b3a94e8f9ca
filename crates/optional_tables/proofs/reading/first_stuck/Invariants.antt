-- What the loop of `first_stuck` keeps: no table so far is stuck.
use Rattle.std.proofs.Common.{ℕ, ◌<◌}
use Rattle.attr_sets.specs.Sets.{attributes}
use Rattle.optional_tables.specs.Hindrances.{IsStuckAt}
use Rattle.optional_tables.proofs.reading.first_stuck.Given as goal

abbrev pub invariant-loop-k : goal.invariant-loop-k
invariant-loop-k l = (j : ℕ) → j < l.k → IsStuckAt (attributes l.nullable) l.tables j → ⊥
