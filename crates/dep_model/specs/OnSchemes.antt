-- Implication on a scheme, by the projections of legal relations on it: for keys, normal forms and
-- parts.
use Rattle.std.specs.Prelude.{◌≡◌, ℕ, true, List, Contains}
use Rattle.attr_sets.specs.Attributes.{Attributes, union, difference, count_below}
use Rattle.dep_model.specs.Tuples.{Tuple, Relation, value_at}
use Rattle.dep_model.specs.Dependencies.{Dependency, fd, mvd, IsWithin}
use Rattle.dep_model.specs.Implication.{IsLegal}
use Rattle.dep_model.specs.Projections.{projection}

-- the value at attribute k in a tuple over a scheme that has k
abbrev pub value_in : Attributes → Tuple → ℕ → List ℕ
value_in scheme t k = value_at t (count_below scheme k)

-- two tuples over a scheme are equal at each attribute of x
abbrev pub AgreeIn : Attributes → Attributes → Tuple → Tuple → Type 0
AgreeIn scheme x t u = (k : ℕ) → x k ≡ true → value_in scheme t k ≡ value_in scheme u k

-- a relation over a scheme obeys a dependency; the rest of a multivalued one is taken in the scheme
abbrev pub ObeysIn : Attributes → Dependency → Relation → Type 0
ObeysIn scheme (fd x y) r =
    (t u : Tuple) → Contains r t → Contains r u → AgreeIn scheme x t u → AgreeIn scheme y t u
ObeysIn scheme (mvd x y) r =
    (t u : Tuple) → Contains r t → Contains r u → AgreeIn scheme x t u
    → (v : Tuple) × Contains r v × AgreeIn scheme (union x y) v t
    × AgreeIn scheme (difference scheme (union x y)) v u

-- a dependency lies within a scheme, and the projection of every legal relation on it obeys it
pub record ImpliedOn (n : ℕ) (ds : List Dependency) (scheme : Attributes) (d : Dependency) : Type 0 where
  pub within : IsWithin scheme d
  pub obeyed : (r : Relation) → IsLegal n ds r → ObeysIn scheme d (projection scheme r)
