-- What the loop of `look_at` keeps: `pairs`.
use Rattle.std.proofs.Common.{length}
use Rattle.std.specs.Prelude.{All}
use Rattle.candidate_search.specs.Pairs.{IsRowPair}
use Rattle.candidate_search.proofs.neighbours.look_at.Given as goal

-- the pairs so far are of rows
abbrev pub invariant-loop-k : goal.invariant-loop-k
invariant-loop-k l = record {
  pairs : All (IsRowPair (length l.numbers)) l.sample.pairs.items;
}
