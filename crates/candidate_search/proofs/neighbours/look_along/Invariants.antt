-- What the loop of `look_along` keeps: `pairs`.
use Rattle.std.proofs.Common.{length}
use Rattle.std.specs.Prelude.{All}
use Rattle.candidate_search.specs.Pairs.{IsRowPair}
use Rattle.candidate_search.proofs.neighbours.look_along.Given as goal

-- the pairs so far are of rows
abbrev pub invariant-loop-distance : goal.invariant-loop-distance
invariant-loop-distance l = record {
  pairs : All (IsRowPair (length l.numbers)) l.sample.pairs.items;
}
