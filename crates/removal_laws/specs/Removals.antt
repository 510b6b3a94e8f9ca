-- How few rows must go, or change, so that rows obey a dependency: as a number of rows what Kivinen and
-- Mannila (1995) call the error g3. For what measures rows.
use Rattle.std.specs.Prelude.{◌≡◌, ◌⊎◌, ℕ, ◌+◌, ◌<◌, ◌≤◌, Bool, false, if◌then◌else◌, [], ◌∷◌, length}
use Rattle.attr_sets.specs.Attributes.{Attributes, count_below}
use Rattle.dep_model.specs.Tuples.{Relation, IsOver, AgreeOn}
use Rattle.dep_model.specs.Dependencies.{Dependency, Obeys, fd}
use Rattle.row_store.specs.Rows.{row_at}

-- positions of rows, as their test
abbrev pub Positions : Type 0
Positions = ℕ → Bool

-- the rows at the positions that pass, counted from i
unfoldable pub rows_from : ℕ → Positions → Relation → Relation
rows_from i stays [] = []
rows_from i stays (t ∷ r) = if stays i then t ∷ rows_from (i + 1) stays r else rows_from (i + 1) stays r

-- the rows that stay
abbrev pub rows_at : Positions → Relation → Relation
rows_at stays r = rows_from 0 stays r

-- the rows at the positions that do not pass are a least removal: the others obey the dependency, and no
-- more of the rows do
pub record IsLeastRemoval (n : ℕ) (d : Dependency) (r : Relation) (stays : Positions) : Type 0 where
  pub obeys : Obeys n d (rows_at stays r)
  pub most : (other : Positions) → Obeys n d (rows_at other r)
      → length (rows_at other r) ≤ length (rows_at stays r)

-- s is r with values changed outside a set, in the rows that do not stay
pub record IsChanged (x : Attributes) (r : Relation) (stays : Positions) (s : Relation) : Type 0 where
  pub one_each : length s ≡ length r
  pub same : (i : ℕ) → i < length r → (stays i ≡ false) ⊎ (row_at s i ≡ row_at r i)
  pub agree : (i : ℕ) → i < length r → AgreeOn x (row_at s i) (row_at r i)

-- changing values outside the left side in the rows that do not stay is enough to obey a functional
-- dependency, and with fewer rows it is not
pub record IsLeastChange (n : ℕ) (x y : Attributes) (r : Relation) (stays : Positions) : Type 0 where
  pub reached : (s : Relation) × IsChanged x r stays s × IsOver n s × Obeys n (fd x y) s
  pub most : (other : Positions) (s : Relation) → IsChanged x r other s → Obeys n (fd x y) s
      → count_below other (length r) ≤ count_below stays (length r)
