-- Left sides with their attributes: for `in_order` and the functions below it. `Desk` does not cite it.
use Rattle.std.specs.Prelude.{ℕ, ◌<◌, ◌^◌, List, map}
use Rattle.attr_sets.specs.Attributes.{only}
use Rattle.attr_sets.specs.Sets.{attributes}
use Rattle.attr_sets.specs.declared.set.AttrSet.{AttrSet}
use Rattle.attr_sets.specs.declared.set.TheConstants.{MOST_ATTRIBUTES}
use Rattle.candidate_search.specs.declared.side.Side.{Side}
use Rattle.dep_model.specs.Dependencies.{Dependency, fd}

-- each left side of a side with its attribute
abbrev pub pairs_of : Side → List (AttrSet × ℕ)
pairs_of side = map (λ left. (left, side.right)) side.lefts.items

-- the dependency of a left side on its attribute
abbrev pub fd_of : AttrSet × ℕ → Dependency
fd_of p = fd (attributes p.0) (only p.1)

-- the number of a left side is one of a set
abbrev pub HasNumber : AttrSet × ℕ → Type 0
HasNumber p = p.0.0 < 2 ^ MOST_ATTRIBUTES
