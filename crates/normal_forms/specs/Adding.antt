-- Attributes of a scheme that add only themselves: for the narrowing of a scheme before it is
-- tested. `Desk` does not cite it.
use Rattle.std.specs.Prelude.{◌≡◌, ℕ, false, List}
use Rattle.attr_sets.specs.Attributes.{Attributes, intersection, IsSubset}
use Rattle.dep_model.specs.Dependencies.{Dependency}
use Rattle.dep_model.specs.Keys.{InClosure}

-- the attributes of a scheme that are not in a set add only themselves: what a left side
-- determines beyond itself, it determines by what it has of the set
abbrev pub AddOnlyThemselves : ℕ → List Dependency → Attributes → Attributes → Type 0
AddOnlyThemselves n ds scheme whole =
    (x : Attributes) (a : ℕ) → IsSubset x scheme → InClosure n ds x a → x a ≡ false
    → InClosure n ds (intersection x whole) a
