-- How many rows must go at least so that the others obey a dependency: as a number of rows the error g3 of
-- Kivinen and Mannila (1995). For what lists dependencies that nearly hold.
use Rattle.std.specs.Prelude.{◌≡◌, ℕ, ◌+◌, length}
use Rattle.dep_model.specs.Dependencies.{Dependency}
use Rattle.dep_model.specs.Tuples.{Relation}
use Rattle.removal_laws.specs.Removals.{IsLeastRemoval, Positions, rows_at}

-- so many rows go in a least removal
pub record IsError (n : ℕ) (r : Relation) (d : Dependency) (e : ℕ) : Type 0 where
  pub stays : Positions
  pub least : IsLeastRemoval n d r stays
  pub others : e + length (rows_at stays r) ≡ length r
