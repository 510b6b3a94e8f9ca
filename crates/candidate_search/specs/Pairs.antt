-- Two rows that do not obey a functional dependency, by their positions. For `broken_pair`. `Desk`
-- does not cite it.
use Rattle.std.specs.Prelude.{◌≡◌, ◌<◌, ◌==◌, ◌&&◌, ℕ, Option, Some, None, length, nat_lt}
use Rattle.attr_sets.specs.Attributes.{Attributes, only}
use Rattle.row_groups.specs.Interning.{codes_at}
use Rattle.row_groups.specs.Numberings.{number_at}
use Rattle.row_groups.specs.declared.interning.Interned.{Interned}
use Rattle.dep_model.specs.Dependencies.{ObeysFd}
use Rattle.dep_model.specs.Tuples.{Relation, AgreeOn, value_at}
use Rattle.row_store.specs.Rows.{row_at}

-- the rows at two positions agree on x and differ on a
pub record IsBroken (r : Relation) (x : Attributes) (a i j : ℕ) : Type 0 where
  pub first : i < length r
  pub second : j < length r
  pub agree : AgreeOn x (row_at r i) (row_at r j)
  pub differ : value_at (row_at r i) a ≡ value_at (row_at r j) a → ⊥

-- two such rows; or there are none, and the rows obey x -> a
abbrev pub FindsBroken : Relation → Attributes → ℕ → Option (ℕ × ℕ) → Type 0
FindsBroken r x a None = ObeysFd x (only a) r
FindsBroken r x a (Some p) = IsBroken r x a p.0 p.1

-- the columns below a bound in which two rows have one number
abbrev pub same_codes : Interned → ℕ → ℕ → ℕ → Attributes
same_codes t i j bound k = nat_lt k bound && (number_at (codes_at t k) i == number_at (codes_at t k) j)

-- the positions of two of so many rows
abbrev pub IsRowPair : ℕ → ℕ × ℕ → Type 0
IsRowPair n p = (p.0 < n) × (p.1 < n)
