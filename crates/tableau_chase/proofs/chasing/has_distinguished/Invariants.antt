-- What the loop of `has_distinguished` keeps, in terms of `distinguished_row` and `symbol_row_at`.
use Rattle.std.proofs.Common.{◌≡◌, ℕ, ◌<◌}
use Rattle.chase_laws.specs.Tableaux.{distinguished_row}
use Rattle.tableau_chase.specs.Groups.{symbol_row_at}
use Rattle.tableau_chase.proofs.chasing.has_distinguished.Given as goal

abbrev pub invariant-loop-i : goal.invariant-loop-i
invariant-loop-i l = (j : ℕ) → j < l.i → symbol_row_at l.rows j ≡ distinguished_row l.width → ⊥
