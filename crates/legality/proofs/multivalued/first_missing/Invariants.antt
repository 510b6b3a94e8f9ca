-- What the loop of `first_missing` keeps: `beside`.
use Rattle.std.proofs.Common.{◌≡◌, ◌<◌, ℕ, true}
use Rattle.row_groups.specs.Numberings.{number_at}
use Rattle.legality.specs.Parts.{flag_at}
use Rattle.legality.proofs.multivalued.first_missing.Given as goal

-- no rest so far is missing
abbrev pub invariant-loop-second : goal.invariant-loop-second
invariant-loop-second l = record {
  beside : (i : ℕ) → i < l.second → number_at l.groups i ≡ number_at l.groups l.first → flag_at l.beside (number_at l.rests i) ≡ true;
}
