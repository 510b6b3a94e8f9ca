-- What the laws of row_measures say of lists, and of the tuples that groups lack.
use Rattle.std.specs.Prelude.{◌≡◌, ◌<◌, ◌↔◌, ℕ, List, length, Contains}
use Rattle.attr_sets.specs.Attributes.{Attributes, union, below}
use Rattle.dep_model.specs.Tuples.{AgreeOn, Relation, Tuple}
use Rattle.dep_model.specs.Dependencies.{rest_beside}
use Rattle.row_store.specs.Rows.{row_at}
use Rattle.row_measures.specs.declared.breach.BrokenRow.{BrokenRow}
use Rattle.row_measures.specs.declared.breach.RowMark.TheVariants as mark

-- a row is listed, and marked as removed
abbrev pub IsRemoved : List BrokenRow → ℕ → Type 0
IsRemoved rows i = (b : BrokenRow) × Contains rows b × (b.row ≡ i) × (b.mark ≡ mark.Removed)

-- no tuple stands twice
abbrev pub IsOnce : List Tuple → Type 0
IsOnce ts = (i j : ℕ) → i < length ts → j < length ts → row_at ts i ≡ row_at ts j → i ≡ j

-- a tuple over n attributes is missing: it is no row, though one row agrees with it on x and y, and another on x
-- and what is outside x and y. So it is in the join of the two projections, and not among the rows
pub record IsMissing (n : ℕ) (x y : Attributes) (r : Relation) (t : Tuple) : Type 0 where
  pub size : length t ≡ n
  pub no_row : Contains r t → ⊥
  pub left : (u : Tuple) × Contains r u × AgreeOn (union x y) t u
  pub rest : (u : Tuple) × Contains r u × AgreeOn (union x (rest_beside (below n) x y)) t u

-- these are all missing tuples, each once
pub record AreMissing (n : ℕ) (x y : Attributes) (r : Relation) (ts : List Tuple) : Type 0 where
  pub each : (t : Tuple) → Contains ts t ↔ IsMissing n x y r t
  pub once : IsOnce ts
