-- What the loop of `first_set` keeps: no flag so far is set.
use Rattle.std.proofs.Common.{◌≡◌, ◌<◌, ℕ, false}
use Rattle.legality.specs.Parts.{flag_at}
use Rattle.desk_measures.proofs.columns.first_set.Given as goal

abbrev pub invariant-loop-row : goal.invariant-loop-row
invariant-loop-row l = record {
  unset : (k : ℕ) → k < l.row → flag_at l.flags k ≡ false;
}
