-- Functional and multivalued dependencies, and when a relation obeys one: for every definition of
-- the theory.
use Rattle.std.specs.Prelude.{ℕ, Bool, true, false, List, Contains, filter}
use Rattle.attr_sets.specs.Attributes.{Attributes, below, union, difference, IsSubset}
use Rattle.dep_model.specs.Tuples.{Tuple, Relation, AgreeOn}

-- a dependency between sets of attributes: x -> y, or x ->> y
pub data Dependency : Type 0 where
  fd : Attributes → Attributes → Dependency
  mvd : Attributes → Attributes → Dependency

-- any two tuples that agree on x agree on y
abbrev pub ObeysFd : Attributes → Attributes → Relation → Type 0
ObeysFd x y r = (t u : Tuple) → Contains r t → Contains r u → AgreeOn x t u → AgreeOn y t u

-- the rest of a scheme, beside the sides of a multivalued dependency
abbrev pub rest_beside : Attributes → Attributes → Attributes → Attributes
rest_beside scheme x y = difference scheme (union x y)

-- for any two tuples that agree on x some tuple agrees with the first on x and y, and with the second
-- on the rest of the scheme
abbrev pub ObeysMvd : Attributes → Attributes → Attributes → Relation → Type 0
ObeysMvd scheme x y r =
    (t u : Tuple) → Contains r t → Contains r u → AgreeOn x t u
    → (v : Tuple) × Contains r v × AgreeOn (union x y) v t × AgreeOn (difference scheme (union x y)) v u

-- a relation over n attributes obeys a dependency; the scheme of a multivalued one is the universe
abbrev pub Obeys : ℕ → Dependency → Relation → Type 0
Obeys n (fd x y) r = ObeysFd x y r
Obeys n (mvd x y) r = ObeysMvd (below n) x y r

-- whether a dependency is a functional one
abbrev pub is_fd : Dependency → Bool
is_fd (fd x y) = true
is_fd (mvd x y) = false

-- the functional dependencies of a list
abbrev pub functional_part : List Dependency → List Dependency
functional_part ds = filter is_fd ds

-- the left side
abbrev pub left_of : Dependency → Attributes
left_of (fd x y) = x
left_of (mvd x y) = x

-- the right side
abbrev pub right_of : Dependency → Attributes
right_of (fd x y) = y
right_of (mvd x y) = y

-- the sets of a dependency lie within a set
abbrev pub IsWithin : Attributes → Dependency → Type 0
IsWithin universe d = IsSubset (left_of d) universe × IsSubset (right_of d) universe

-- a dependency leads out of a set: its left side lies within, and its right side does not
pub record LeadsOut (c : Attributes) (d : Dependency) : Type 0 where
  pub inside : IsSubset (left_of d) c
  pub beyond : IsSubset (right_of d) c → ⊥
