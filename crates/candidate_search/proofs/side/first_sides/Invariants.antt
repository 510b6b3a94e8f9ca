-- What the loop of `first_sides` keeps: `rights`, `tested`.
use Rattle.std.proofs.Common.{◌≡◌, ◌<◌, ℕ, take}
use Rattle.std.specs.Prelude.{All}
use Rattle.dep_model.specs.Tuples.{Relation}
use Rattle.candidate_search.specs.Sides.{IsTested, rights_of}
use Rattle.candidate_search.proofs.side.first_sides.Given as goal

-- the sides so far
abbrev pub invariant-loop-right : goal.invariant-loop-right
invariant-loop-right l = record {
  rights : rights_of l.sides.items ≡ take l.right-index l.rights;
  tested : (n most : ℕ) (r : Relation) → All (λ right. right < n) l.rights → All (IsTested n most r 0) l.sides.items;
}
