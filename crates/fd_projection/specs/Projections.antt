-- The functional dependencies inside a set: the minimal ones that are implied, in order, and what is
-- left where those are left out that the others imply: for `project` and the command of that name.
use Rattle.std.specs.Prelude.{◌≡◌, ◌⊎◌, ◌↔◌, ◌≤◌, ℕ, true, false, List, [], ◌∷◌, ◌++◌, length, All, AllPairs, Contains}
use Rattle.attr_sets.specs.Attributes.{Attributes, only, difference, IsSubset, IsBefore}
use Rattle.dep_model.specs.Dependencies.{Dependency, fd, left_of, right_of, IsWithin}
use Rattle.dep_model.specs.Implication.{Implies}
use Rattle.dep_model.specs.Keys.{InClosure}
use Rattle.min_cover.specs.Covers.{IsThinned}
use Rattle.fd_projection.specs.declared.refusal.TheConstants.{MOST_LISTED}

-- inside a set x -> a is implied, where a is outside x, and z -> a is for no proper subset z of x
pub record IsMinimalWithin (n : ℕ) (ds : List Dependency) (set x : Attributes) (a : ℕ) : Type 0 where
  pub left : IsSubset x set
  pub right : set a ≡ true
  pub outside : x a ≡ false
  pub determines : InClosure n ds x a
  pub minimal : (z : Attributes) → IsSubset z x → InClosure n ds z a → IsSubset x z

-- such a dependency, of a set on one attribute
abbrev pub IsMinimalFd : ℕ → List Dependency → Attributes → Dependency → Type 0
IsMinimalFd n ds set d = (x : Attributes) × (a : ℕ) × (d ≡ fd x (only a)) × IsMinimalWithin n ds set x a

-- a dependency comes before another: by its left side, then by its right side
abbrev pub Precedes : Dependency → Dependency → Type 0
Precedes d e =
    IsBefore (left_of d) (left_of e)
    ⊎ ((left_of d ≡ left_of e) × IsBefore (right_of d) (right_of e))

-- exactly these dependencies, in this order
pub record AreMinimalWithin (n : ℕ) (ds : List Dependency) (set : Attributes)
    (found : List Dependency) : Type 0 where
  pub each : All (IsMinimalFd n ds set) found
  pub all : (x : Attributes) (a : ℕ) → IsMinimalWithin n ds set x a → Contains found (fd x (only a))
  pub ascending : AllPairs Precedes found

-- these dependencies, not too many, without those that the others imply
pub record IsProjection (n : ℕ) (ds : List Dependency) (set : Attributes)
    (rules : List Dependency) : Type 0 where
  pub found : List Dependency
  pub minimal : AreMinimalWithin n ds set found
  pub within_limit : length found ≤ MOST_LISTED
  pub thinned : IsThinned n [] found rules

-- rules inside a set from which a functional dependency inside it follows exactly where it follows from
-- a list, and nothing of which can be spared
pub record IsCoverWithin (n : ℕ) (ds : List Dependency) (set : Attributes)
    (rules : List Dependency) : Type 0 where
  pub within : All (IsWithin set) rules
  pub exact : (x y : Attributes) → IsSubset x set → IsSubset y set
      → Implies n rules (fd x y) ↔ Implies n ds (fd x y)
  -- no rule follows from the others
  pub needed : (before after : List Dependency) (d : Dependency) → rules ≡ before ++ d ∷ after
      → Implies n (before ++ after) d → ⊥
  -- no attribute of a left side can be left out
  pub short : (d : Dependency) → Contains rules d → (i : ℕ) → left_of d i ≡ true
      → Implies n ds (fd (difference (left_of d) (only i)) (right_of d)) → ⊥
