-- Sums over the numbers below one: for what counts by groups.
use Rattle.std.specs.Prelude.{ℕ, zero, suc, ◌+◌}

unfoldable pub total : (ℕ → ℕ) → ℕ → ℕ
total f zero = 0
total f (suc n) = total f n + f n
