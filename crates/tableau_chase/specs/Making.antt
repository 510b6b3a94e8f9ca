-- The rows that multivalued dependencies make: for the functions below `chase`. `Desk` does not
-- cite it.
use Rattle.std.specs.Prelude.{◌≡◌, ℕ, ◌⊎◌, List, Contains}
use Rattle.attr_sets.specs.Attributes.{Attributes, union}
use Rattle.dep_model.specs.Dependencies.{Dependency, fd, mvd}
use Rattle.chase_laws.specs.Tableaux.{SymbolRow, Tableau, SymbolsAgree}
use Rattle.chase_laws.specs.Steps.{exchange_rows}
use Rattle.chase_laws.specs.Rounds.{HasMoreThan}
use Rattle.tableau_chase.specs.Groups.{symbol_row_at}
use Rattle.tableau_chase.specs.Pools.{Extends}

-- a row that two rows of a tableau, which agree on x, give by x ->> y
pub record IsExchangedRow (n : ℕ) (x y : Attributes) (t : Tableau) (row : SymbolRow) : Type 0 where
  pub first : SymbolRow
  pub second : SymbolRow
  pub first_in : Contains t first
  pub second_in : Contains t second
  pub agree : SymbolsAgree x first second
  pub row_is : row ≡ exchange_rows n (union x y) first second

-- the same by a dependency of either kind
abbrev pub IsMadeFrom : ℕ → Dependency → Tableau → SymbolRow → Type 0
IsMadeFrom n (fd x y) t row = ⊥
IsMadeFrom n (mvd x y) t row = IsExchangedRow n x y t row

-- rows with a property were added at the end, so that all of them are there
pub record AddsAll (P : SymbolRow → Type 0) (t s : Tableau) : Type 0 where
  pub extends : Extends t s
  pub sound : (row : SymbolRow) → Contains s row → Contains t row ⊎ P row
  pub complete : (row : SymbolRow) → P row → Contains s row

-- each tableau that has all rows of a first one, and all with a property, has more than so many
abbrev pub Overflows : (SymbolRow → Type 0) → ℕ → Tableau → Type 0
Overflows P limit t = (s : Tableau) → ((row : SymbolRow) → Contains t row → Contains s row)
    → ((row : SymbolRow) → P row → Contains s row) → HasMoreThan limit s

-- the rows that one row of a tableau gives with others at some positions
abbrev pub IsExchangedWith : ℕ → Attributes → Tableau → ℕ → List ℕ → SymbolRow → Type 0
IsExchangedWith n z t first seconds row =
    (j : ℕ) × Contains seconds j × (row ≡ exchange_rows n z (symbol_row_at t first) (symbol_row_at t j))
