-- Irreducible closed sets by what they have of the left sides, from which they are found: for the
-- search of armstrong_rel and its law `irreducible_exactly_where`. `Desk` does not cite it.
use Rattle.std.specs.Prelude.{◌≡◌, ℕ, ◌<◌, ◌↔◌, true, false, List}
use Rattle.attr_sets.specs.Attributes.{Attributes, below, only, union, difference, IsSubset}
use Rattle.dep_model.specs.Dependencies.{Dependency}
use Rattle.dep_model.specs.Keys.{InClosure}
use Rattle.fd_closure.specs.LeftSides.{left_sides}

-- a part of the left sides has all that it determines of them
abbrev pub IsClosedPart : ℕ → List Dependency → Attributes → Type 0
IsClosedPart n ds z = (a : ℕ) → left_sides ds a ≡ true → InClosure n ds z a → z a ≡ true

-- with each further attribute of the left sides a part determines attribute k
abbrev pub IsShared : ℕ → List Dependency → Attributes → ℕ → Type 0
IsShared n ds z k = (b : ℕ) → left_sides ds b ≡ true → z b ≡ false → InClosure n ds (union z (only b)) k

-- m has the attributes of the universe that a part determines with each further one of the left sides
abbrev pub IsSharedBeyond : ℕ → List Dependency → Attributes → Attributes → Type 0
IsSharedBeyond n ds z m = (k : ℕ) → (m k ≡ true) ↔ (k < n) × IsShared n ds z k

-- a part does not determine attribute a, and does so with each further attribute of the left sides
pub record IsLacking (n : ℕ) (ds : List Dependency) (z : Attributes) (a : ℕ) : Type 0 where
  pub universe : a < n
  pub lacks : InClosure n ds z a → ⊥
  pub shared : IsShared n ds z a

-- the attributes of the universe that are in no left side
abbrev pub in_no_left_side : ℕ → List Dependency → Attributes
in_no_left_side n ds = difference (below n) (left_sides ds)

-- a part of the left sides, with all attributes in no left side but a
abbrev pub filled_but : ℕ → List Dependency → Attributes → ℕ → Attributes
filled_but n ds z a = difference (union z (in_no_left_side n ds)) (only a)

-- a set is found from a closed part of the left sides, and an attribute that this lacks
pub record IsFilledPart (n : ℕ) (ds : List Dependency) (c : Attributes) : Type 0 where
  pub part : Attributes
  pub within : IsSubset part (left_sides ds)
  pub closed : IsClosedPart n ds part
  pub attribute : ℕ
  pub lacking : IsLacking n ds part attribute
  pub filled : c ≡ filled_but n ds part attribute
