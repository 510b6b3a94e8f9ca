-- The steps of the chase by a functional and by a multivalued dependency: for the rounds of
-- `Rounds` and for tableau_chase.
use Rattle.std.specs.Prelude.{◌≡◌, ℕ, ◌<◌, ◌⊎◌, ◌==◌, zero, suc, true, if◌then◌else◌, List, ◌∷◌, map, Contains, slice_set}
use Rattle.std.specs.List.{range_with_len}
use Rattle.attr_sets.specs.Attributes.{Attributes, union}
use Rattle.dep_model.specs.Dependencies.{Dependency, fd, mvd}
use Rattle.chase_laws.specs.Tableaux.{SymbolRow, Tableau, SameTableau, symbol_at, SymbolsAgree}

-- a row whose symbol at attribute a becomes `later` where it is `former`
abbrev pub replace_in_row : ℕ → ℕ → ℕ → SymbolRow → SymbolRow
replace_in_row a former later row = if symbol_at row a == former then slice_set row a later else row

-- the same throughout the attribute
abbrev pub replace_symbol : ℕ → ℕ → ℕ → Tableau → Tableau
replace_symbol a former later t = map (replace_in_row a former later) t

-- the row with the first's symbols on a set and the second's elsewhere
unfoldable pub exchange_rows : ℕ → Attributes → SymbolRow → SymbolRow → SymbolRow
exchange_rows n z p q = map (λ k. if z k then symbol_at p k else symbol_at q k) (range_with_len 0 n)

-- a step by x -> y: two rows agree on x and differ at an attribute of y, and the greater of the two
-- symbols becomes the smaller one throughout that attribute
pub record IsFdStep (x y : Attributes) (t s : Tableau) : Type 0 where
  pub first : SymbolRow
  pub second : SymbolRow
  pub first_in : Contains t first
  pub second_in : Contains t second
  pub agree : SymbolsAgree x first second
  pub attribute : ℕ
  pub member : y attribute ≡ true
  pub differ : symbol_at first attribute < symbol_at second attribute
  pub after : SameTableau (replace_symbol attribute (symbol_at second attribute) (symbol_at first attribute) t) s

-- a step by x ->> y: two rows agree on x, and the row with the first's symbols on x and y and the
-- second's elsewhere, which is not there, is added
pub record IsMvdStep (n : ℕ) (x y : Attributes) (t s : Tableau) : Type 0 where
  pub first : SymbolRow
  pub second : SymbolRow
  pub first_in : Contains t first
  pub second_in : Contains t second
  pub agree : SymbolsAgree x first second
  pub fresh : Contains t (exchange_rows n (union x y) first second) → ⊥
  pub after : SameTableau (exchange_rows n (union x y) first second ∷ t) s

-- a step by a functional dependency of a list
pub record IsFunctionalStep (ds : List Dependency) (t s : Tableau) : Type 0 where
  pub lhs : Attributes
  pub rhs : Attributes
  pub given : Contains ds (fd lhs rhs)
  pub step : IsFdStep lhs rhs t s

-- a step by a multivalued dependency of a list
pub record IsMultivaluedStep (n : ℕ) (ds : List Dependency) (t s : Tableau) : Type 0 where
  pub lhs : Attributes
  pub rhs : Attributes
  pub given : Contains ds (mvd lhs rhs)
  pub step : IsMvdStep n lhs rhs t s

-- a step of either kind
abbrev pub IsChaseStep : ℕ → List Dependency → Tableau → Tableau → Type 0
IsChaseStep n ds t s = IsFunctionalStep ds t s ⊎ IsMultivaluedStep n ds t s

-- no step changes the tableau
abbrev pub IsClosed : ℕ → List Dependency → Tableau → Type 0
IsClosed n ds t = (s : Tableau) → IsChaseStep n ds t s → ⊥

-- no step by a functional dependency changes the tableau
abbrev pub HasNoFunctionalStep : List Dependency → Tableau → Type 0
HasNoFunctionalStep ds t = (s : Tableau) → IsFunctionalStep ds t s → ⊥

-- so many steps of a kind lead from one tableau to the other
abbrev pub LeadsIn : (Tableau → Tableau → Type 0) → ℕ → Tableau → Tableau → Type 0
LeadsIn Step zero t s = SameTableau t s
LeadsIn Step (suc count) t s = (m : Tableau) × LeadsIn Step count t m × Step m s

-- any number of steps, in any order
abbrev pub LeadsTo : (Tableau → Tableau → Type 0) → Tableau → Tableau → Type 0
LeadsTo Step t s = (count : ℕ) × LeadsIn Step count t s
