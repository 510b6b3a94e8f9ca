-- Short derivations: for `implies` (`desk_implication/Implication`).
use Rattle.std.specs.Prelude.{◌≡◌, ◌⊎◌, ◌≤◌, ℕ, Bool, true, false, if◌then◌else◌, Some, slice_get}
use Rattle.attr_sets.specs.Attributes.{Attributes, none, union, intersection, difference, IsSubset, Disjoint}
use Rattle.dep_model.specs.Theories.{Theory}
use Rattle.dep_model.specs.Dependencies.{Dependency, fd, mvd, left_of, right_of, functional_part}
use Rattle.dep_model.specs.Implication.{Implies}
use Rattle.dep_model.specs.Theories.{universe_of, width_of, theory_of}
use Rattle.derivation.specs.Trees.{Tree, leaf, step, pair, nodes, Step, given, reflexivity, augmentation, complementation, maugmentation, replication, transitivity, mtransitivity, coalescence}
use Rattle.derivation.specs.Conclusions.{Proves}
use Rattle.derivation.specs.Chains.{IsFunctionalChain}

-- a step more, or none
abbrev pub taken : Bool → Step → Tree → Tree
taken true rule t = step rule t
taken false rule t = t

-- dependency k, and then replication, complementation, augmentation of both sides, complementation and
-- augmentation again, each or not. It is turned where it is complemented the second time, and augmented again where
-- it is the second time: each augmentation adds a wide set on the left and a narrow one of it on the right
abbrev pub shape : ℕ → Bool → Bool → Bool → Attributes → Attributes → Bool → Bool → Attributes → Attributes → Tree
shape k replicated complemented augmented wide narrow turned again wide_again narrow_again =
    taken again (maugmentation wide_again narrow_again)
    (taken turned complementation (taken augmented (maugmentation wide narrow)
    (taken complemented complementation (taken replicated replication (leaf (given k))))))

-- such a tree
abbrev pub IsShape : Tree → Type 0
IsShape t =
    (k : ℕ) × (replicated : Bool) × (complemented : Bool) × (augmented : Bool) × (wide : Attributes)
    × (narrow : Attributes) × (turned : Bool) × (again : Bool) × (wide_again : Attributes)
    × (narrow_again : Attributes)
    × (t ≡ shape k replicated complemented augmented wide narrow turned again wide_again narrow_again)

-- from the chain of x and what is neither in x nor in y: x ->> y, with what both share added at last, or not
abbrev pub rest_of : Attributes → Attributes → Bool → Tree → Tree
rest_of x y shared chain =
    taken shared (maugmentation x (intersection x y)) (step complementation (step replication chain))

-- dependency k, and then replication and complementation, each or not
abbrev pub start : ℕ → Bool → Bool → Tree
start k replicated complemented = taken complemented complementation (taken replicated replication (leaf (given k)))

-- from x ->> w and l ->> u, by transitivity: with x added to the first and w on the left of the second, each
-- or not; and then complementation, and what x and y share added on the right, each or not. So the first is lifted
-- by x, the second widened by w, what comes of both is turned to what lies beyond, and again something is added
abbrev pub transitivity_of : Attributes → Attributes → Attributes → Tree → Tree → Bool → Bool → Bool → Bool → Tree
transitivity_of x y w first second lifted widened turned again =
    taken again (maugmentation x (intersection x y)) (taken turned complementation
    (pair mtransitivity (taken lifted (maugmentation x x) first)
    (taken widened (maugmentation (if lifted then union w x else w) none) second)))

-- from l -> u what it says of z alone, or all
abbrev pub cut_to : Bool → Attributes → Attributes → Tree → Tree
cut_to true u z t = pair transitivity t (leaf (reflexivity u z))
cut_to false u z t = t

-- from x ->> w and l -> u, by coalescence: with x on the left of the first, and of the second only what y has
-- beyond x, each or not; and then what x and y share added to both sides, or not. So the first is lifted by x, the
-- second is cut, and again something is added
abbrev pub coalescence_of : Attributes → Attributes → Attributes → Tree → Tree → Bool → Bool → Bool → Tree
coalescence_of x y u first second lifted cut again =
    taken again (augmentation (intersection x y))
    (pair coalescence (taken lifted (maugmentation x none) first) (cut_to cut u (difference y x) second))

-- of the attributes of b, r has just those that y has, or just those that y has not
abbrev pub Agrees : Attributes → Attributes → Attributes → Type 0
Agrees b y r = (intersection r b ≡ intersection b y) ⊎ (intersection r b ≡ difference b y)

-- what is in p is in y, or none of it is
abbrev pub IsOneSided : Attributes → Attributes → Type 0
IsOneSided p y = IsSubset p y ⊎ Disjoint p y

-- the sets of a dependency e fit a goal after x ->> w, where b is what is in neither x nor w: what w has beyond x
-- y has all, or none of it; x and w reach the left side of e, and its right side agrees with y on b. Of a
-- functional goal, e is functional, its left side is apart from w, and what y has beyond x is in w and in its
-- right side
abbrev pub FitBeyond : Attributes → Dependency → Attributes → Dependency → Type 0
FitBeyond b (mvd x y) w e =
    IsOneSided (difference w x) y × IsSubset (left_of e) (union w x) × Agrees b y (right_of e)
FitBeyond b (fd x y) w (mvd l u) = ⊥
FitBeyond b (fd x y) w (fd l u) = Disjoint l w × IsSubset (difference y x) w × IsSubset (difference y x) u

abbrev pub SetsFit : Theory → Dependency → Attributes → Dependency → Type 0
SetsFit s d w e = FitBeyond (difference (universe_of s) (union w (left_of d))) d w e

-- such trees of two dependencies: from a tree of x ->> w, and of dependency j
abbrev pub IsTransitivity : Attributes → Attributes → Tree → Attributes → ℕ → Tree → Type 0
IsTransitivity x y first w j t =
    (replicated complemented : Bool) × ((lifted widened : Bool) × ((turned again : Bool)
    × (t ≡ transitivity_of x y w first (start j replicated complemented) lifted widened turned again)))

abbrev pub IsCoalescence : Attributes → Attributes → Attributes → Tree → ℕ → Tree → Type 0
IsCoalescence x y u first j t =
    (lifted : Bool) × ((cut again : Bool)
    × (t ≡ coalescence_of x y u first (leaf (given j)) lifted cut again))

-- the one or the other, by the goal, where the sets of dependency j fit
abbrev pub IsJoinedTree : Dependency → Tree → Attributes → ℕ → Dependency → Tree → Type 0
IsJoinedTree (mvd x y) first w j e t = IsTransitivity x y first w j t
IsJoinedTree (fd x y) first w j e t = IsCoalescence x y (right_of e) first j t

abbrev pub IsJoinedBy : Theory → Dependency → Tree → Attributes → ℕ → Tree → Type 0
IsJoinedBy s d first w j t =
    (e : Dependency) × (slice_get (theory_of s) j ≡ Some e) × SetsFit s d w e × IsJoinedTree d first w j e t

-- the same, where the first is v ->> w with v in the left side of the goal
abbrev pub IsJoinedFrom : Theory → Dependency → Tree → Tree → Type 0
IsJoinedFrom s d first t =
    (v w : Attributes) × Proves s first (mvd v w) × IsSubset v (left_of d)
    × ((j : ℕ) × IsJoinedBy s d first w j t)

-- a tree of two dependencies that are joined
abbrev pub IsJoined : Theory → Dependency → Tree → Type 0
IsJoined s d t =
    (k : ℕ) × ((replicated complemented : Bool) × IsJoinedFrom s d (start k replicated complemented) t)

-- the derivations of a goal that are listed: two dependencies that are joined; and of x ->> y a given
-- dependency after a few steps; the functional chain of x -> y, and replication; and that of x and what is
-- neither in x nor in y, replicated and complemented. Of a functional goal that the functional part alone
-- implies, none
abbrev pub IsListed : Theory → Dependency → Tree → Type 0
IsListed s (fd x y) t =
    (Implies (width_of s) (functional_part (theory_of s)) (fd x y) → ⊥) × IsJoined s (fd x y) t
IsListed s (mvd x y) t =
    IsShape t
    ⊎ ((chain : Tree) × IsFunctionalChain s x y chain × (t ≡ step replication chain))
    ⊎ ((chain : Tree) × IsFunctionalChain s x (difference (universe_of s) (union x y)) chain
    × (shared : Bool) × (t ≡ rest_of x y shared chain))
    ⊎ IsJoined s (mvd x y) t

-- a tree is no longer than any of these that proves the dependency
abbrev pub IsNoLongerThan : Theory → Dependency → (Tree → Type 0) → Tree → Type 0
IsNoLongerThan s d P t = (u : Tree) → P u → Proves s u d → nodes t ≤ nodes u

abbrev pub IsShort : Theory → Dependency → Tree → Type 0
IsShort s d t = IsNoLongerThan s d (IsListed s d) t
