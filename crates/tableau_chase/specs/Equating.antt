-- A tableau that functional dependencies change until they change nothing: for the functions below
-- `chase`. `Desk` does not cite it.
use Rattle.std.specs.Prelude.{◌≡◌, ℕ, ◌<◌, ◌⊎◌, suc, Bool, true, false, Option, IfSome, List, length, Contains}
use Rattle.attr_sets.specs.Attributes.{Attributes}
use Rattle.attr_sets.specs.Sets.{attributes}
use Rattle.attr_sets.specs.declared.set.AttrSet.{AttrSet}
use Rattle.dep_model.specs.Dependencies.{Dependency, fd, mvd}
use Rattle.chase_laws.specs.Tableaux.{Tableau, symbol_at, SymbolsAgree, IsTableauOver}
use Rattle.chase_laws.specs.Steps.{replace_symbol, IsFunctionalStep, LeadsIn}
use Rattle.tableau_chase.specs.Groups.{symbol_row_at}

-- where there was a change, one step or more by functional dependencies, and else none
abbrev pub Changes : List Dependency → Bool → Tableau → Tableau → Type 0
Changes ds true t s = (count : ℕ) × LeadsIn (IsFunctionalStep ds) (suc count) t s
Changes ds false t s = s ≡ t

-- rows that were equal at an attribute still are, and no row came or went
pub record KeepsRows (t s : Tableau) : Type 0 where
  pub one_each : length s ≡ length t
  pub equal : (i j k : ℕ) → i < length t → j < length t
      → symbol_at (symbol_row_at t i) k ≡ symbol_at (symbol_row_at t j) k
      → symbol_at (symbol_row_at s i) k ≡ symbol_at (symbol_row_at s j) k
  pub over : (n : ℕ) → IsTableauOver n t → IsTableauOver n s

-- some steps by functional dependencies led from one tableau to another, or none
pub record Follows (ds : List Dependency) (t s : Tableau) : Type 0 where
  pub changes : (s ≡ t) ⊎ Changes ds true t s
  pub keeps : KeepsRows t s

-- the same by one dependency, of whatever list it is
abbrev pub FollowsBy : Dependency → Tableau → Tableau → Type 0
FollowsBy d t s = (ds : List Dependency) → Contains ds d → Follows ds t s

-- the greater of two rows' symbols at an attribute became the smaller, unless they were equal
abbrev pub IsEquatedAt : ℕ → ℕ → ℕ → Tableau → Tableau → Bool → Type 0
IsEquatedAt a first second t s false =
    (s ≡ t) × (symbol_at (symbol_row_at t first) a ≡ symbol_at (symbol_row_at t second) a)
IsEquatedAt a first second t s true =
    ((symbol_at (symbol_row_at t first) a < symbol_at (symbol_row_at t second) a)
    × (s ≡ replace_symbol a (symbol_at (symbol_row_at t second) a) (symbol_at (symbol_row_at t first) a) t))
    ⊎ ((symbol_at (symbol_row_at t second) a < symbol_at (symbol_row_at t first) a)
    × (s ≡ replace_symbol a (symbol_at (symbol_row_at t first) a) (symbol_at (symbol_row_at t second) a) t))

-- two rows were made to agree on y
pub record AreEquated (y : Attributes) (first second : ℕ) (t s : Tableau) (changed : Bool) : Type 0 where
  pub changes : (ds : List Dependency) (x : Attributes) → Contains ds (fd x y)
      → SymbolsAgree x (symbol_row_at t first) (symbol_row_at t second) → Changes ds changed t s
  pub keeps : KeepsRows t s
  pub agree : SymbolsAgree y (symbol_row_at s first) (symbol_row_at s second)

-- a tableau obeys x -> y
abbrev pub AgreesBy : Attributes → Attributes → Tableau → Type 0
AgreesBy x y t =
    (i j : ℕ) → i < length t → j < length t → SymbolsAgree x (symbol_row_at t i) (symbol_row_at t j)
    → SymbolsAgree y (symbol_row_at t i) (symbol_row_at t j)

-- no two rows agree on x
abbrev pub AreApart : Attributes → Tableau → Type 0
AreApart x t =
    (i j : ℕ) → i < length t → j < length t → SymbolsAgree x (symbol_row_at t i) (symbol_row_at t j) → i ≡ j

-- the set that is kept, if one is, is such
abbrev pub IsKeptApart : Option AttrSet → Tableau → Type 0
IsKeptApart apart t = IfSome apart (λ set. AreApart (attributes set) t)

-- rows that agree on x were made to agree on y; no change shows that they did before
pub record AreGrouped (x y : Attributes) (t s : Tableau) (changed : Bool) : Type 0 where
  pub changes : (ds : List Dependency) → Contains ds (fd x y) → Changes ds changed t s
  pub keeps : KeepsRows t s
  pub obeyed : changed ≡ false → AgreesBy x y t

-- the same by a functional dependency; a multivalued one changes nothing
abbrev pub AreGroupedBy : Dependency → Tableau → Tableau → Bool → Type 0
AreGroupedBy (fd x y) t s changed = AreGrouped x y t s changed
AreGroupedBy (mvd x y) t s changed = (s ≡ t) × (changed ≡ false)
