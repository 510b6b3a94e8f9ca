-- How many rows agree with a row, each different row once: for the laws that decide by counts whether rows obey a
-- dependency, and for the code that counts. `Desk` does not cite it.
use Rattle.std.specs.Prelude.{◌≡◌, ◌<◌, ◌==◌, ◌↔◌, ℕ, List, length}
use Rattle.attr_sets.specs.Attributes.{Attributes, below, count_below}
use Rattle.row_groups.specs.Numberings.{number_at}
use Rattle.dep_model.specs.Tuples.{Relation, AgreeOn}
use Rattle.row_store.specs.Rows.{row_at}

-- the row at the place of a different one
abbrev pub one_at : Relation → List ℕ → ℕ → List (List ℕ)
one_at r ones j = row_at r (number_at ones j)

-- the positions of the different rows: each row equals one of them, and no other
pub record AreDifferentRows (n : ℕ) (r : Relation) (ones : List ℕ) : Type 0 where
  pub within : (j : ℕ) → j < length ones → number_at ones j < length r
  pub all : (i : ℕ) → i < length r → (j : ℕ) × (j < length ones) × AgreeOn (below n) (row_at r i) (one_at r ones j)
  pub once : (j k : ℕ) → j < length ones → k < length ones
      → AgreeOn (below n) (one_at r ones j) (one_at r ones k) → j ≡ k

-- how many places below a count have the number of one
abbrev pub size_at : (ℕ → ℕ) → ℕ → ℕ → ℕ
size_at numbers count j = count_below (λ k. numbers k == numbers j) count

-- numbers of different rows by what they have on x: two have one number exactly where they agree on it
abbrev pub AreNumbersOn : Relation → List ℕ → Attributes → (ℕ → ℕ) → Type 0
AreNumbersOn r ones x numbers =
    (j k : ℕ) → j < length ones → k < length ones
    → (numbers j ≡ numbers k) ↔ AgreeOn x (one_at r ones j) (one_at r ones k)

-- for each of the different rows, how many of them agree with it on x
pub record AreSizes (r : Relation) (ones : List ℕ) (x : Attributes) (sizes : List ℕ) : Type 0 where
  pub numbers : ℕ → ℕ
  pub agreement : AreNumbersOn r ones x numbers
  pub one_each : length sizes ≡ length ones
  pub each : (j : ℕ) → j < length ones → number_at sizes j ≡ size_at numbers (length ones) j
