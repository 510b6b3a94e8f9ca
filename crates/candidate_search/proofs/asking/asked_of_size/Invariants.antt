-- What the loop of `asked_of_size` keeps: `all`, `within`.
use Rattle.std.proofs.Common.{ℕ, take}
use Rattle.std.specs.Prelude.{All}
use Rattle.candidate_search.specs.Asking.{AsksAll, IsAskedWithin}
use Rattle.candidate_search.specs.Sides.{HasCandidates}
use Rattle.candidate_search.proofs.asking.asked_of_size.Given as goal

-- the left sides of the sides so far are asked about
abbrev pub invariant-loop-side : goal.invariant-loop-side
invariant-loop-side l = record {
  all : All (AsksAll l.asked.items l.size) (take l.side-index l.sides);
  within : (n most : ℕ) → All (HasCandidates n most) l.sides → All (IsAskedWithin n) l.asked.items;
}
