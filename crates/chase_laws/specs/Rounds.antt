-- The chase in rounds, and where it ends: for the laws of chase_laws, `chase` of tableau_chase and
-- `check join` (`desk_designs/Joins`).
use Rattle.std.specs.Prelude.{◌≡◌, ℕ, ◌<◌, ◌↔◌, ◌⊎◌, zero, suc, List, length, All, AllPairs, Contains}
use Rattle.attr_sets.specs.Attributes.{Attributes, union}
use Rattle.dep_model.specs.Dependencies.{Dependency, mvd}
use Rattle.chase_laws.specs.Tableaux.{SymbolRow, Tableau, SameTableau, SymbolsAgree, distinguished_row, plan_tableau}
use Rattle.chase_laws.specs.Steps.{exchange_rows, IsFunctionalStep, IsChaseStep, IsClosed, HasNoFunctionalStep, LeadsTo}

-- a tableau that comes from the plan's by any number of steps in any order
abbrev pub ReachesTableau : ℕ → List Dependency → List Attributes → Tableau → Type 0
ReachesTableau n ds plan t = LeadsTo (IsChaseStep n ds) (plan_tableau n plan) t

-- steps by functional dependencies lead from one tableau to the other, and none changes that
pub record ClosesFunctionallyTo (ds : List Dependency) (t s : Tableau) : Type 0 where
  pub leads : LeadsTo (IsFunctionalStep ds) t s
  pub functionally_closed : HasNoFunctionalStep ds s

-- a row that one step by a multivalued dependency makes of two rows
pub record IsMadeOf (n : ℕ) (ds : List Dependency) (t : Tableau) (row : SymbolRow) : Type 0 where
  pub lhs : Attributes
  pub rhs : Attributes
  pub given : Contains ds (mvd lhs rhs)
  pub first : SymbolRow
  pub second : SymbolRow
  pub first_in : Contains t first
  pub second_in : Contains t second
  pub agree : SymbolsAgree lhs first second
  pub row_is : row ≡ exchange_rows n (union lhs rhs) first second

-- the second tableau has the rows of the first, and all that one step by a multivalued dependency makes
-- of them
abbrev pub IsNext : ℕ → List Dependency → Tableau → Tableau → Type 0
IsNext n ds t s = (row : SymbolRow) → Contains s row ↔ (Contains t row ⊎ IsMadeOf n ds t row)

-- the rounds end at a functionally closed tableau that holds the row of distinguished symbols or is
-- closed
abbrev pub EndsRounds : ℕ → List Dependency → Tableau → Type 0
EndsRounds n ds t = Contains t (distinguished_row n) ⊎ IsClosed n ds t

-- a tableau of the rounds, after so many of them: the first is the plan's; from each, what it closes
-- functionally to is taken, and where that does not end the rounds, the next tableau
abbrev pub InRounds : ℕ → List Dependency → List Attributes → ℕ → Tableau → Type 0
InRounds n ds plan zero t = SameTableau (plan_tableau n plan) t
InRounds n ds plan (suc round) t =
    (before functionally_closed : Tableau) × InRounds n ds plan round before
    × ClosesFunctionallyTo ds before functionally_closed
    × (EndsRounds n ds functionally_closed → ⊥) × IsNext n ds functionally_closed t

-- there are more than so many rows in a tableau, equal ones counted once
pub record HasMoreThan (limit : ℕ) (t : Tableau) : Type 0 where
  pub rows : List SymbolRow
  pub differ : AllPairs (λ p q. p ≡ q → ⊥) rows
  pub each : All (Contains t) rows
  pub many : limit < length rows

-- some tableau of the rounds has more than so many rows
pub record RoundsExceed (n : ℕ) (ds : List Dependency) (plan : List Attributes) (limit : ℕ) : Type 0 where
  pub round : ℕ
  pub tableau : Tableau
  pub in_rounds : InRounds n ds plan round tableau
  pub more : HasMoreThan limit tableau
