-- What the loop of `remove_outside` keeps: the rows so far.
use Rattle.std.proofs.Common.{◌≡◌, ◌≤◌, ◌<◌, ◌&&◌, ℕ, length}
use Rattle.legality.specs.Parts.{flag_at}
use Rattle.removal_laws.specs.Classes.{in_chosen}
use Rattle.row_measures.proofs.keeping.remove_outside.Given as goal

abbrev pub invariant-loop-row : goal.invariant-loop-row
invariant-loop-row l = record {
  count : length l.kept.items ≡ length l.fn.kept.items;
  looked_at : (i : ℕ) → i < l.row → flag_at l.kept.items i ≡ (flag_at l.fn.kept.items i && in_chosen l.groups l.classes l.chosen i);
  ahead : (i : ℕ) → l.row ≤ i → flag_at l.kept.items i ≡ flag_at l.fn.kept.items i;
}
