-- Tableaux, and the one with which the chase of a plan begins: for the steps and rounds of the
-- chase, and for tableau_chase.
use Rattle.std.specs.Prelude.{◌≡◌, ℕ, ◌↔◌, suc, true, if◌then◌else◌, List, [], ◌∷◌, length, map, replicate, All, Contains, slice_index_or}
use Rattle.std.specs.List.{range_with_len}
use Rattle.attr_sets.specs.Attributes.{Attributes}

-- a row of a tableau: a symbol for each attribute. Symbols are numbers, and 0 is the distinguished one
abbrev pub SymbolRow : Type 0
SymbolRow = List ℕ

-- a tableau: finitely many rows, whose order and repetition mean nothing
abbrev pub Tableau : Type 0
Tableau = List SymbolRow

-- each row has n symbols
abbrev pub IsTableauOver : ℕ → Tableau → Type 0
IsTableauOver n t = All (λ row. length row ≡ n) t

-- equal rows are one row: each row is in both or in neither
abbrev pub SameTableau : Tableau → Tableau → Type 0
SameTableau t s = (row : SymbolRow) → Contains t row ↔ Contains s row

-- the symbol of a row at an attribute
abbrev pub symbol_at : SymbolRow → ℕ → ℕ
symbol_at row k = slice_index_or row k 0

-- the two rows have the same symbol at each attribute of x
abbrev pub SymbolsAgree : Attributes → SymbolRow → SymbolRow → Type 0
SymbolsAgree x p q = (k : ℕ) → x k ≡ true → symbol_at p k ≡ symbol_at q k

-- the row of distinguished symbols
unfoldable pub distinguished_row : ℕ → SymbolRow
distinguished_row n = replicate n 0

-- the row of scheme number i: distinguished on the scheme, i elsewhere
unfoldable pub scheme_row : ℕ → Attributes → ℕ → SymbolRow
scheme_row n scheme i = map (λ k. if scheme k then 0 else i) (range_with_len 0 n)

-- the rows of schemes that are numbered from i on
abbrev pub scheme_rows : ℕ → ℕ → List Attributes → Tableau
scheme_rows n i [] = []
scheme_rows n i (scheme ∷ plan) = scheme_row n scheme i ∷ scheme_rows n (suc i) plan

-- the tableau of a plan: a row for each scheme, numbered from 1
abbrev pub plan_tableau : ℕ → List Attributes → Tableau
plan_tableau n plan = scheme_rows n 1 plan
