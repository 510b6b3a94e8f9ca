-- Which block shows that a dependency is not implied: for `decide`, by `Decisions`.
use Rattle.std.specs.Prelude.{◌≡◌, ℕ, ◌<◌, ◌≤◌, true, List}
use Rattle.attr_sets.specs.Attributes.{Attributes, below, IsFirstFrom}
use Rattle.dep_model.specs.Dependencies.{Dependency, fd, mvd}
use Rattle.dep_model.specs.Keys.{InClosure, IsBlock}
use Rattle.dep_basis.specs.Bases.{IsSplitBy}

-- the block that shows that a dependency is not implied: for x -> y, that of the first attribute of y
-- outside the closure; for x ->> y, the first that intersects both y and its complement
abbrev pub IsBreakingBlock : ℕ → List Dependency → Dependency → Attributes → Type 0
IsBreakingBlock n ds (fd x y) p =
    IsBlock n ds x p
    × ((a : ℕ) × (p a ≡ true) × (y a ≡ true) × ((b : ℕ) → b < a → y b ≡ true → InClosure n ds x b))
IsBreakingBlock n ds (mvd x y) p =
    IsBlock n ds x p × IsSplitBy (below n) y p
    × ((q : Attributes) (i j : ℕ) → IsBlock n ds x q → IsSplitBy (below n) y q
    → IsFirstFrom p 0 i → IsFirstFrom q 0 j → i ≤ j)
