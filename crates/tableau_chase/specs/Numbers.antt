-- The numbers of rows, by which a row is found: for `RowNumbers`. `Desk` does not cite it.
use Rattle.std.specs.Prelude.{◌≡◌, ℕ, ◌<◌, List, [], length, Contains, Some, IsSome, nat_eq, slice_index_or, Vec}
use Rattle.std.specs.declared.alloc.Global.{Global}
use Rattle.std.specs.HashMap.{get}
use Rattle.std.specs.Cmp.Lexicographic.{pointwise}
use Rattle.tableau_chase.specs.declared.numbers.RowNumbers.{RowNumbers}

-- the number is the first position of a key in a list
pub record IsFirstPosition (keys : List (List ℕ)) (key : List ℕ) (number : ℕ) : Type 0 where
  pub low : number < length keys
  pub here : slice_index_or keys number [] ≡ key
  pub first : (j : ℕ) → j < number → slice_index_or keys j [] ≡ key → ⊥

-- the numbers of the keys of a list: the first position of each
pub record IsNumbering (keys : List (List ℕ)) (numbers : RowNumbers) : Type 0 where
  pub sound : (q : Vec ℕ Global) (number : ℕ)
      → get (λ x y. pointwise nat_eq x.items y.items) numbers.firsts q ≡ Some number
      → IsFirstPosition keys q.items number
  pub complete : (q : Vec ℕ Global) → Contains keys q.items
      → IsSome (get (λ x y. pointwise nat_eq x.items y.items) numbers.firsts q)
