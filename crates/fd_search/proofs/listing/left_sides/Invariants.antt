-- What the loop of `left_sides` keeps: `pairs`, `numbers`.
use Rattle.std.proofs.Common.{◌≡◌, take}
use Rattle.std.specs.Prelude.{All, flat_map}
use Rattle.fd_search.specs.Listing.{HasNumber, pairs_of}
use Rattle.fd_search.proofs.listing.left_sides.Given as goal

-- the left sides so far
abbrev pub invariant-loop-side : goal.invariant-loop-side
invariant-loop-side l = record {
  pairs : l.pairs.items ≡ flat_map pairs_of (take l.side-index l.sides);
  numbers : All HasNumber l.pairs.items;
}
