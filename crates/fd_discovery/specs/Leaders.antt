-- Leaders: for each row one of the rows that agree with it on a set. For the search of
-- fd_discovery. `Desk` does not cite it.
use Rattle.std.specs.Prelude.{◌≡◌, ◌<◌, ◌≤◌, ℕ, List, [], length, slice_index_or, All, Contains}
use Rattle.attr_sets.specs.Attributes.{Attributes}
use Rattle.dep_model.specs.Tuples.{Relation, AgreeOn}
use Rattle.row_groups.specs.Numberings.{number_at}
use Rattle.row_store.specs.Rows.{row_at}
use Rattle.row_groups.specs.Interning.{IsInterned, codes_at}
use Rattle.fd_discovery.specs.declared.table.CodeColumns.{CodeColumns}

-- each row's leader on a set: one row that agrees with it there, the same for all rows that agree
pub record AreLeadersOn (r : Relation) (x : Attributes) (leaders : List ℕ) : Type 0 where
  pub one_each : length leaders ≡ length r
  pub within : (i : ℕ) → i < length r → number_at leaders i < length r
  pub agrees : (i : ℕ) → i < length r → AgreeOn x (row_at r i) (row_at r (number_at leaders i))
  pub same : (i j : ℕ) → i < length r → j < length r → AgreeOn x (row_at r i) (row_at r j)
      → number_at leaders i ≡ number_at leaders j

-- each number below a count stands in a list
abbrev pub HasEach : ℕ → List ℕ → Type 0
HasEach count order = (i : ℕ) → i < count → (p : ℕ) × (p < length order) × (number_at order p ≡ i)

-- the positions of a list, those of lesser numbers first
pub record IsOrderOf (numbers order : List ℕ) : Type 0 where
  pub within : (p : ℕ) → p < length order → number_at order p < length numbers
  pub all : (i : ℕ) → i < length numbers → (p : ℕ) × (p < length order) × (number_at order p ≡ i)
  pub ascending : (p q : ℕ) → p < q → q < length order
      → number_at numbers (number_at order p) ≤ number_at numbers (number_at order q)

-- the order of the rows by column k
abbrev pub order_at : CodeColumns → ℕ → List ℕ
order_at t k = slice_index_or t.orders.items k []

-- rows of this width: the number of each value, and for each column the order of the rows by it
pub record IsTableOfRows (n : ℕ) (r : Relation) (t : CodeColumns) : Type 0 where
  pub width : t.width ≡ n
  pub codes : IsInterned n r t.codes
  pub orders : (k : ℕ) → k < n → IsOrderOf (codes_at t.codes k) (order_at t k)
  pub one_each : length t.orders.items ≡ n

-- a table of rows, and their leaders on a set
pub record AreLed (r : Relation) (t : CodeColumns) (x : Attributes) (leaders : List ℕ) : Type 0 where
  pub table : IsTableOfRows t.width r t
  pub led : AreLeadersOn r x leaders

-- the first n numbers of a list, each with its position
pub record ArePaired (numbers : List ℕ) (n : ℕ) (pairs : List (ℕ × ℕ)) : Type 0 where
  pub each : All (λ p. (p.1 < n) × (p.0 ≡ number_at numbers p.1)) pairs
  pub all : (i : ℕ) → i < n → Contains pairs (number_at numbers i, i)
