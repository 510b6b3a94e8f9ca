-- What the loop of `add_left_sides` keeps: `pairs`, `numbers`.
use Rattle.std.proofs.Common.{◌≡◌, ◌++◌, map, take}
use Rattle.std.specs.Prelude.{All}
use Rattle.fd_search.specs.Listing.{HasNumber}
use Rattle.fd_search.proofs.listing.add_left_sides.Given as goal

-- the left sides so far
abbrev pub invariant-loop-left : goal.invariant-loop-left
invariant-loop-left l = record {
  pairs : l.pairs.items ≡ l.fn.pairs.items ++ map (λ left. (left, l.side.right)) (take l.left-index l.side.lefts.items);
  numbers : All HasNumber l.fn.pairs.items → All HasNumber l.pairs.items;
}
