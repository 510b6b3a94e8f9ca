-- What keeps a list of dependencies from being a minimal or a canonical cover: for `diagnostics` and the
-- commands `check cover` and `check cover canonical`.
use Rattle.std.specs.Prelude.{⊤, ◌≡◌, ◌⊎◌, ℕ, ◌+◌, ◌<◌, true, List, Some, AllPairs, Contains, slice_get, slice_set}
use Rattle.std.specs.List.{remove}
use Rattle.attr_sets.specs.Attributes.{only, difference, count_below, IsEmpty}
use Rattle.attr_sets.specs.declared.set.TheConstants.{MOST_ATTRIBUTES}
use Rattle.dep_model.specs.Dependencies.{Dependency, fd, mvd, functional_part}
use Rattle.dep_model.specs.Implication.{Implies}
use Rattle.canonical_cover.specs.Merging.{have_same_left}
use Rattle.cover_accounts.specs.declared.diagnostic.CoverDiagnostic.{CoverDiagnostic}
use Rattle.cover_accounts.specs.declared.diagnostic.CoverDiagnostic.TheVariants.{SeveralOnRight, SameLeft, NotNeededOnLeft, NotNeededOnRight, Follows}
use Rattle.cover_accounts.specs.declared.diagnostic.CoverForm.{CoverForm}
use Rattle.cover_accounts.specs.declared.diagnostic.CoverForm.TheVariants.{Minimal, Canonical}

-- ---- what is told of a dependency
-- a functional dependency has more than one attribute on the right
abbrev pub HasSeveralOnRight : Dependency → Type 0
HasSeveralOnRight (fd x y) = 1 < count_below y MOST_ATTRIBUTES
HasSeveralOnRight (mvd x y) = ⊥

-- the functional dependency at a place has the left side of an earlier one, of which the first stands at j
pub record HasLeftOf (ds : List Dependency) (k j : ℕ) : Type 0 where
  pub dependency : Dependency
  pub here : slice_get ds k ≡ Some dependency
  pub other : Dependency
  pub there : slice_get ds j ≡ Some other
  pub before : j < k
  pub same : have_same_left other dependency ≡ true
  pub first : (i : ℕ) (d : Dependency) → i < j → slice_get ds i ≡ Some d → have_same_left d dependency ≡ true → ⊥

-- an attribute is not needed on the left of a functional dependency: the others of its left side
-- determine the right side by the functional dependencies of the list
abbrev pub IsNotNeededOnLeft : ℕ → List Dependency → Dependency → ℕ → Type 0
IsNotNeededOnLeft n ds (fd x y) a = (x a ≡ true) × Implies n (functional_part ds) (fd (difference x (only a)) y)
IsNotNeededOnLeft n ds (mvd x y) a = ⊥

-- an attribute is not needed on the right of the functional dependency at a place: its left side determines
-- the attribute by the functional dependencies of the list, of which this one stands without it
abbrev pub IsNotNeededOnRight : ℕ → List Dependency → ℕ → Dependency → ℕ → Type 0
IsNotNeededOnRight n ds k (fd x y) a =
    (y a ≡ true) × Implies n (functional_part (slice_set ds k (fd x (difference y (only a))))) (fd x (only a))
IsNotNeededOnRight n ds k (mvd x y) a = ⊥

-- a dependency follows from others: a functional one from the functional ones, a multivalued one from all
abbrev pub FollowsFrom : ℕ → List Dependency → Dependency → Type 0
FollowsFrom n ds (fd x y) = Implies n (functional_part ds) (fd x y)
FollowsFrom n ds (mvd x y) = Implies n ds (mvd x y)

-- a dependency is asked whether it follows from the others; in a canonical cover a functional one only where it
-- has nothing on the right, since else its right side is told attribute by attribute
abbrev pub IsAskedToFollow : CoverForm → Dependency → Type 0
IsAskedToFollow Minimal d = ⊤
IsAskedToFollow Canonical (fd x y) = IsEmpty y
IsAskedToFollow Canonical (mvd x y) = ⊤

-- ---- diagnostics
-- a diagnostic of a list, over n attributes: what it says holds of the dependency at its position, and is asked
-- of this form of cover
abbrev pub IsCoverDiagnostic : CoverForm → ℕ → List Dependency → CoverDiagnostic → Type 0
IsCoverDiagnostic form n ds (SeveralOnRight k) =
    (form ≡ Minimal) × ((d : Dependency) × (slice_get ds k ≡ Some d) × HasSeveralOnRight d)
IsCoverDiagnostic form n ds (SameLeft k j) = (form ≡ Canonical) × HasLeftOf ds k j
IsCoverDiagnostic form n ds (NotNeededOnLeft k a) =
    (d : Dependency) × (slice_get ds k ≡ Some d) × IsNotNeededOnLeft n ds d a
IsCoverDiagnostic form n ds (NotNeededOnRight k a) =
    (form ≡ Canonical) × ((d : Dependency) × (slice_get ds k ≡ Some d) × IsNotNeededOnRight n ds k d a)
IsCoverDiagnostic form n ds (Follows k) =
    (d : Dependency) × (slice_get ds k ≡ Some d) × IsAskedToFollow form d × FollowsFrom n (remove ds k) d

-- the attribute that a diagnostic names, if it names one, is below the most
abbrev pub NamesAttribute : CoverDiagnostic → Type 0
NamesAttribute (SeveralOnRight k) = ⊤
NamesAttribute (SameLeft k j) = ⊤
NamesAttribute (NotNeededOnLeft k a) = a < MOST_ATTRIBUTES
NamesAttribute (NotNeededOnRight k a) = a < MOST_ATTRIBUTES
NamesAttribute (Follows k) = ⊤

-- the position of the dependency that a diagnostic is of
abbrev pub position_of : CoverDiagnostic → ℕ
position_of (SeveralOnRight k) = k
position_of (SameLeft k j) = k
position_of (NotNeededOnLeft k a) = k
position_of (NotNeededOnRight k a) = k
position_of (Follows k) = k

-- the place of a diagnostic among those of one dependency
abbrev pub rank_of : CoverDiagnostic → ℕ
rank_of (SeveralOnRight k) = 0
rank_of (SameLeft k j) = 0
rank_of (NotNeededOnLeft k a) = 1 + a
rank_of (NotNeededOnRight k a) = 1 + (MOST_ATTRIBUTES + a)
rank_of (Follows k) = 1 + (MOST_ATTRIBUTES + MOST_ATTRIBUTES)

-- a diagnostic comes before a place: it is of an earlier dependency, or of this one with a lower rank
abbrev pub IsBeforePlace : ℕ → ℕ → CoverDiagnostic → Type 0
IsBeforePlace k rank one = (position_of one < k) ⊎ ((position_of one ≡ k) × (rank_of one < rank))

-- exactly the diagnostics of a list, in their order
pub record AreCoverDiagnostics (form : CoverForm) (n : ℕ) (ds : List Dependency) (found : List CoverDiagnostic)
    : Type 0 where
  pub each : (one : CoverDiagnostic) → Contains found one → IsCoverDiagnostic form n ds one
  pub all : (one : CoverDiagnostic) → IsCoverDiagnostic form n ds one → Contains found one
  pub ordered : AllPairs (λ one other. IsBeforePlace (position_of other) (rank_of other) one) found
