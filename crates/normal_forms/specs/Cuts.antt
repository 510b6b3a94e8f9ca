-- What it is to part a scheme: for the law that a violation parts its scheme, and the proofs of
-- split_forms. `Desk` does not cite it.
use Rattle.std.specs.Prelude.{ℕ, List}
use Rattle.attr_sets.specs.Attributes.{Attributes, union, difference, Disjoint, Intersects}
use Rattle.dep_model.specs.Dependencies.{Dependency, mvd}
use Rattle.dep_model.specs.OnSchemes.{ImpliedOn}

-- x ->> y parts a scheme: it is implied there, y lies apart from x and is not empty, and the
-- scheme has more than x and y
pub record IsCut (n : ℕ) (ds : List Dependency) (scheme x y : Attributes) : Type 0 where
  pub implied : ImpliedOn n ds scheme (mvd x y)
  pub apart : Disjoint y x
  pub not_empty : Intersects scheme y
  pub rest : Intersects scheme (difference scheme (union x y))
