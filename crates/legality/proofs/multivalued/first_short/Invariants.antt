-- What the loop of `first_short` keeps: `enough`.
use Rattle.std.proofs.Common.{◌<◌, ◌≤◌, ℕ}
use Rattle.row_groups.specs.Numberings.{number_at}
use Rattle.legality.proofs.multivalued.first_short.Given as goal

-- no row so far is short
abbrev pub invariant-loop-row : goal.invariant-loop-row
invariant-loop-row l = record {
  enough : (i : ℕ) → i < l.row → number_at l.wanted (number_at l.groups i) ≤ number_at l.present (number_at l.lefts i);
}
