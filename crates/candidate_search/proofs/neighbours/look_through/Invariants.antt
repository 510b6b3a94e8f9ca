-- What the loop of `look_through` keeps: `order`, `pairs`.
use Rattle.std.proofs.Common.{◌<◌}
use Rattle.std.specs.Prelude.{All}
use Rattle.row_groups.specs.Interning.{count_of}
use Rattle.candidate_search.specs.Pairs.{IsRowPair}
use Rattle.candidate_search.proofs.neighbours.look_through.Given as goal

-- the order and the pairs so far are of rows
abbrev pub invariant-loop-step : goal.invariant-loop-step
invariant-loop-step l = record {
  order : All (λ row. row < count_of l.codes) l.order.items;
  pairs : All (IsRowPair (count_of l.codes)) l.sample.pairs.items;
}
