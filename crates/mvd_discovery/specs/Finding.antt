-- All that rows obey, as a list: for `discover_all` and the command `discover all`
-- (`desk_discovery/AllDiscoveries`).
use Rattle.std.specs.Prelude.{ℕ, List}
use Rattle.dep_model.specs.Dependencies.{Dependency}
use Rattle.dep_model.specs.Tuples.{Relation}
use Rattle.fd_discovery.specs.Minimal.{AreAllMinimal}
use Rattle.min_cover.specs.Covers.{IsThinned}
use Rattle.mvd_laws.specs.Reduced.{AreAllReduced}

-- the minimal functional dependencies, and after them the reduced multivalued ones where, from the first to the last,
-- each is left out that the functional ones, those kept before it and all after it imply
pub record AreAllRules (n : ℕ) (r : Relation) (ds : List Dependency) : Type 0 where
  pub functional : List Dependency
  pub minimal : AreAllMinimal n r functional
  pub multivalued : List Dependency
  pub reduced : AreAllReduced n r multivalued
  pub thinned : IsThinned n functional multivalued ds
