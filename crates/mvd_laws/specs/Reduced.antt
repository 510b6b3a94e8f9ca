-- Multivalued dependencies that one relation obeys: the blocks of a set, and the reduced dependencies. For
-- the law of mvd_laws, and for lists of all that rows obey.
use Rattle.std.specs.Prelude.{◌≡◌, ◌<◌, ◌⊎◌, ℕ, true, List, All, AllPairs, Contains}
use Rattle.attr_sets.specs.Attributes.{Attributes, below, only, union, difference, IsSubset, IsEmpty, Disjoint}
use Rattle.attr_sets.specs.Attributes.{IsBefore, IsFirstFrom}
use Rattle.dep_model.specs.Tuples.{Relation}
use Rattle.dep_model.specs.Dependencies.{Dependency, mvd, left_of, right_of, ObeysFd, ObeysMvd}

-- attributes outside x, at least one, that x multidetermines in a relation over n attributes
pub record IsPartOfRows (n : ℕ) (r : Relation) (x y : Attributes) : Type 0 where
  pub within : IsSubset y (below n)
  pub outside : Disjoint y x
  pub not_empty : IsEmpty y → ⊥
  pub obeyed : ObeysMvd (below n) x y r

-- a block of x: such a set that holds no smaller one
pub record IsBlockOfRows (n : ℕ) (r : Relation) (x y : Attributes) : Type 0 where
  pub part : IsPartOfRows n r x y
  pub minimal : (z : Attributes) → IsPartOfRows n r x z → IsSubset z y → IsSubset y z

-- for some attribute a of x, the set x without a multidetermines y, or y with a
abbrev pub HoldsWithLess : ℕ → Relation → Attributes → Attributes → ℕ → Type 0
HoldsWithLess n r x y a =
    (x a ≡ true)
    × (ObeysMvd (below n) (difference x (only a)) y r ⊎ ObeysMvd (below n) (difference x (only a)) (union y (only a)) r)

-- x ->> y is reduced (Ozsoyoglu and Yuan 1987), and no functional dependency: y is a block of x and not all that
-- stands beside x, the relation does not obey x -> y, and no attribute of x can be left out or go to the right side
pub record IsReduced (n : ℕ) (r : Relation) (x y : Attributes) : Type 0 where
  pub left : IsSubset x (below n)
  pub block : IsBlockOfRows n r x y
  pub rest : IsEmpty (difference (below n) (union x y)) → ⊥
  pub free : ObeysFd x y r → ⊥
  pub short : (a : ℕ) → HoldsWithLess n r x y a → ⊥

-- the least attribute of y is less than that of z
abbrev pub BeginsBefore : Attributes → Attributes → Type 0
BeginsBefore y z = (i : ℕ) × (j : ℕ) × IsFirstFrom y 0 i × IsFirstFrom z 0 j × (i < j)

-- by left side, then by the least attribute of the right side
abbrev pub PrecedesByBlock : Dependency → Dependency → Type 0
PrecedesByBlock d e =
    IsBefore (left_of d) (left_of e) ⊎ ((left_of d ≡ left_of e) × BeginsBefore (right_of d) (right_of e))

-- a reduced dependency
abbrev pub IsReducedMvd : ℕ → Relation → Dependency → Type 0
IsReducedMvd n r d = (x : Attributes) × (y : Attributes) × (d ≡ mvd x y) × IsReduced n r x y

-- exactly the reduced dependencies, in this order
pub record AreAllReduced (n : ℕ) (r : Relation) (ds : List Dependency) : Type 0 where
  pub each : All (IsReducedMvd n r) ds
  pub all : (x y : Attributes) → IsReduced n r x y → Contains ds (mvd x y)
  pub ascending : AllPairs PrecedesByBlock ds
