-- What the loop of `with_numbers` keeps: `one_each`, `row` and `small`.
use Rattle.std.proofs.Common.{◌≡◌, ℕ, ◌<◌, ◌^◌, length}
use Rattle.row_groups.specs.Numberings.{number_at}
use Rattle.row_store.specs.Rows.{row_at}
use Rattle.fd_search.specs.Numbered.{with_number}
use Rattle.fd_search.proofs.numbered.with_numbers.Given as goal

-- the rows so far
abbrev pub invariant-loop-i : goal.invariant-loop-i
invariant-loop-i l = record {
  one_each : length l.made ≡ l.i;
  row : (j : ℕ) → j < l.i → row_at l.made j ≡ with_number (number_at l.numbers j) (row_at l.rows j);
  small : (j : ℕ) → j < l.i → number_at l.numbers j < 2 ^ 32;
}
