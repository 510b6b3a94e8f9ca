-- Different rows that are gathered up to a limit: for `Pool`. `Desk` does not cite it.
use Rattle.std.specs.Prelude.{◌≡◌, ℕ, ◌≤◌, ◌⊎◌, [], ◌∷◌, ◌++◌, length, AllPairs, Contains}
use Rattle.chase_laws.specs.Tableaux.{SymbolRow, Tableau}
use Rattle.tableau_chase.specs.declared.pool.Pool.{Pool}
use Rattle.tableau_chase.specs.Numbers.{IsNumbering}

-- no two rows are equal, their numbers are known, and there are at most so many
pub record IsPool (limit : ℕ) (pool : Pool) : Type 0 where
  pub differ : AllPairs (λ p q. p ≡ q → ⊥) pool.rows.items
  pub numbered : IsNumbering pool.rows.items pool.numbers
  pub within_limit : length pool.rows.items ≤ limit

-- a row is there after, at the end if it was not there before
abbrev pub IsAdded : Tableau → SymbolRow → Tableau → Type 0
IsAdded t row s = ((s ≡ t) × Contains t row) ⊎ (s ≡ t ++ row ∷ [])

-- the rows of a tableau stand at the front of the other
abbrev pub Extends : Tableau → Tableau → Type 0
Extends t s = (rest : Tableau) × (s ≡ t ++ rest)
