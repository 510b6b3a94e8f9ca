-- What the loop of `are_products` keeps: the numbers so far are products.
use Rattle.std.proofs.Common.{◌≡◌, ◌*◌, ◌<◌, ℕ}
use Rattle.row_groups.specs.Numberings.{number_at}
use Rattle.mvd_discovery.proofs.obeying.are_products.Given as goal

abbrev pub invariant-loop-j : goal.invariant-loop-j
invariant-loop-j l = record {
  products : (i : ℕ) → i < l.j → number_at l.products i ≡ number_at l.first i * number_at l.second i;
}
