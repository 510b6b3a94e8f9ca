-- What a query gives over a relation: for the laws of relation_queries and the scripts (`Checking` and
-- `Migrating` of sql_scripts).
use Rattle.std.specs.Prelude.{◌≡◌, ℕ, length, Contains}
use Rattle.attr_sets.specs.Attributes.{Attributes}
use Rattle.dep_model.specs.Tuples.{Tuple, Relation, AgreeOn}
use Rattle.dep_model.specs.Projections.{project_tuple, projection}
use Rattle.relation_queries.specs.Queries.{TableQuery, whole, values_on, several, unpaired, join, except, kept, attributes_of}

-- two tuples of a relation agree with a tuple on x, and not with one another on y
pub record IsBeside (x y : Attributes) (r : Relation) (t u v : Tuple) : Type 0 where
  pub first : Contains r u
  pub second : Contains r v
  pub first_agrees : AgreeOn x u t
  pub second_agrees : AgreeOn x v t
  pub differ : AgreeOn y u v → ⊥

-- two tuples of a relation agree with a tuple on x, and no tuple that agrees with it on x has the
-- first one's values on y and the second one's on z
pub record IsUnpaired (x y z : Attributes) (r : Relation) (t u v : Tuple) : Type 0 where
  pub first : Contains r u
  pub second : Contains r v
  pub first_agrees : AgreeOn x u t
  pub second_agrees : AgreeOn x v t
  pub no_pair : (w : Tuple) → Contains r w → AgreeOn x w t → AgreeOn y w u → AgreeOn z w v → ⊥

-- a query over a relation gives the values that a tuple has on the query's attributes
abbrev pub Gives : TableQuery → Relation → Tuple → Type 0
Gives whole r t = Contains r t
Gives (values_on x) r t = Contains (projection x r) (project_tuple x t)
Gives (several x y) r t = (u v : Tuple) × IsBeside x y r t u v
Gives (unpaired x y z) r t = (u v : Tuple) × IsUnpaired x y z r t u v
Gives (join p q) r t = Gives p r t × Gives q r t
Gives (except p q) r t = Gives p r t × (Gives q r t → ⊥)
Gives (kept name q) r t = Gives q r t

-- a tuple over a query's own attributes is one of those that it gives, over a relation of n attributes
pub record IsGiven (n : ℕ) (q : TableQuery) (r : Relation) (u : Tuple) : Type 0 where
  pub tuple : Tuple
  pub over : length tuple ≡ n
  pub gives : Gives q r tuple
  pub values : u ≡ project_tuple (attributes_of n q) tuple

-- it gives no tuple
abbrev pub GivesNone : ℕ → TableQuery → Relation → Type 0
GivesNone n q r = (u : Tuple) → IsGiven n q r u → ⊥

-- the two sides of each difference have the same attributes
abbrev pub IsUnionCompatible : ℕ → TableQuery → Type 0
IsUnionCompatible n whole = Unit {0}
IsUnionCompatible n (values_on x) = Unit {0}
IsUnionCompatible n (several x y) = Unit {0}
IsUnionCompatible n (unpaired x y z) = Unit {0}
IsUnionCompatible n (join p q) = IsUnionCompatible n p × IsUnionCompatible n q
IsUnionCompatible n (except p q) =
    IsUnionCompatible n p × IsUnionCompatible n q × (attributes_of n p ≡ attributes_of n q)
IsUnionCompatible n (kept name q) = IsUnionCompatible n q
