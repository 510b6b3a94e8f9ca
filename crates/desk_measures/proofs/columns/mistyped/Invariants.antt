-- What the loop of `mistyped` keeps: the flags of the rows so far.
use Rattle.std.proofs.Common.{◌≡◌, ◌<◌, ℕ, true, length}
use Rattle.std.specs.Prelude.{◌↔◌}
use Rattle.legality.specs.Parts.{flag_at}
use Rattle.desk_measures.specs.Measures.{IsMistyped}
use Rattle.desk_measures.proofs.columns.mistyped.Given as goal

abbrev pub invariant-loop-row : goal.invariant-loop-row
invariant-loop-row l = record {
  count : length l.flags.items ≡ l.row;
  told : (i : ℕ) → i < l.row → (flag_at l.flags.items i ≡ true) ↔ IsMistyped l.schema l.rows l.attribute i;
}
