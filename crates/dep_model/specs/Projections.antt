-- Projections, natural joins and lossless joins: for plans, tables and what is migrated.
use Rattle.std.specs.Prelude.{◌≡◌, ℕ, ◌<◌, zero, suc, true, if◌then◌else◌, List, [], ◌∷◌, ◌++◌, length, map, Any, Contains}
use Rattle.std.specs.List.{AllZip}
use Rattle.attr_sets.specs.Attributes.{Attributes}
use Rattle.dep_model.specs.Tuples.{Tuple, Relation, value_at, distinct_tuples}
use Rattle.dep_model.specs.Dependencies.{Dependency}
use Rattle.dep_model.specs.Implication.{IsLegal}

-- the members of a set below n, ascending
unfoldable pub members_below : ℕ → Attributes → List ℕ
members_below zero x = []
members_below (suc n) x = members_below n x ++ (if x n then n ∷ [] else [])

-- the values of a tuple at the attributes of a scheme, ascending
abbrev pub project_tuple : Attributes → Tuple → Tuple
project_tuple scheme t = map (λ k. value_at t k) (members_below (length t) scheme)

-- the projections of all tuples
abbrev pub projection : Attributes → Relation → Relation
projection scheme r = map (project_tuple scheme) r

-- the same, each distinct one once, at its first occurrence
abbrev pub ordered_projection : Attributes → Relation → Relation
ordered_projection scheme r = distinct_tuples (projection scheme r)

-- the projections of a relation on the schemes of a plan
abbrev pub projections : List Attributes → Relation → List Relation
projections plan r = map (λ scheme. projection scheme r) plan

-- a tuple over n attributes is in the natural join of tables over the schemes of a plan
pub record InJoin (n : ℕ) (plan : List Attributes) (tables : List Relation) (t : Tuple) : Type 0 where
  pub over : length t ≡ n
  pub in_each : AllZip (λ scheme table. Contains table (project_tuple scheme t)) plan tables

-- each of n attributes is in some scheme
abbrev pub Covers : ℕ → List Attributes → Type 0
Covers n plan = (k : ℕ) → k < n → Any (λ (scheme : Attributes). scheme k ≡ true) plan

-- the schemes cover the universe, and the join of a legal relation's projections has no further tuple
pub record IsLossless (n : ℕ) (ds : List Dependency) (plan : List Attributes) : Type 0 where
  pub covers : Covers n plan
  pub gains_none : (r : Relation) → IsLegal n ds r → (t : Tuple) → InJoin n plan (projections plan r) t
      → Contains r t
