-- The dependencies that cut a part, and the best of them: for the functions below `basis` and
-- `prove`. `Desk` does not cite it.
use Rattle.std.specs.Prelude.{◌≡◌, ℕ, ◌<◌, ◌≤◌, List, length, true, false, ◌⊎◌, Option, Some, IsSome, IfSome, slice_index_or, if◌then◌else◌}
use Rattle.attr_sets.specs.Attributes.{Attributes, none, intersection, difference, Disjoint, Intersects, count_below}
use Rattle.attr_sets.specs.declared.set.TheConstants.{MOST_ATTRIBUTES}
use Rattle.dep_model.specs.Dependencies.{Dependency, left_of, right_of, is_fd}
use Rattle.dep_model.specs.declared.dep.Dep.{Dep}
use Rattle.dep_model.specs.Deps.{dependency_of}
use Rattle.dep_basis.specs.declared.cutting.Cut.{Cut}

-- a dependency cuts a part: its left side is apart from it, and its right side shares some of it, and
-- not all unless the dependency is a functional one
pub record IsCutting (p : Attributes) (d : Dependency) : Type 0 where
  pub apart : Disjoint (left_of d) p
  pub shares : Intersects p (right_of d)
  pub leaves : (is_fd d ≡ true) ⊎ ((k : ℕ) × (p k ≡ true) × (right_of d k ≡ false))

-- what a dependency whose left side is apart from p leaves of it beside attribute a: of what it
-- shares with the right side and what it does not, that with the attribute; nothing where the
-- attribute is determined
abbrev pub side_with : ℕ → Attributes → Dependency → Attributes
side_with a p d =
    if right_of d a then if is_fd d then none else intersection p (right_of d)
    else difference p (right_of d)

-- how many attributes that are
abbrev pub count_left : ℕ → Attributes → Dependency → ℕ
count_left a p d = count_below (side_with a p d) MOST_ATTRIBUTES

-- of the dependencies that cut a part, the one of this number is the first that leaves the fewest
pub record IsBestCut (deps : List Dep) (p : Attributes) (a k : ℕ) : Type 0 where
  pub within : k < length deps
  pub cutting : (d : Dep) → IsCutting p (dependency_of (slice_index_or deps k d))
  pub least : (i : ℕ) (d : Dep) → i < length deps → IsCutting p (dependency_of (slice_index_or deps i d))
      → count_left a p (dependency_of (slice_index_or deps k d))
      ≤ count_left a p (dependency_of (slice_index_or deps i d))
  pub first : (i : ℕ) (d : Dep) → i < k → IsCutting p (dependency_of (slice_index_or deps i d))
      → count_left a p (dependency_of (slice_index_or deps k d))
      < count_left a p (dependency_of (slice_index_or deps i d))

-- the best cut so far stays, unless a dependency cuts the part too and leaves fewer
abbrev pub IsBetterCut : ℕ → Attributes → Dependency → ℕ → Option Cut → Option Cut → Type 0
IsBetterCut a p d number best result =
    ((result ≡ best) × (IsCutting p d → IsSome best × IfSome best (λ cut. cut.left ≤ count_left a p d)))
    ⊎ (IsCutting p d × (result ≡ Some (record { number = number; left = count_left a p d }))
    × IfSome best (λ cut. count_left a p d < cut.left))
