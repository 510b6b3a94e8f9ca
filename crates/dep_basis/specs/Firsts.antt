-- The first of a list with a property: for the functions below `decide`. `Desk` does not cite it.
use Rattle.std.specs.Prelude.{◌≡◌, ℕ, ◌<◌, List, length, slice_index_or}

-- the first of a list with a property
pub record IsFirstWith {X : Type 0} (P : X → Type 0) (xs : List X) (x : X) : Type 0 where
  pub position : ℕ
  pub short : position < length xs
  pub is : slice_index_or xs position x ≡ x
  pub holds : P x
  pub first : (j : ℕ) (d : X) → j < position → P (slice_index_or xs j d) → ⊥
