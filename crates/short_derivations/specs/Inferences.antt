-- Derivations as lists of lines, each given by a rule from earlier ones: for `short_derivation`, its printer
-- and `explain implies`.
use Rattle.std.specs.Prelude.{◌≡◌, ℕ, ◌+◌, ◌<◌, Bool, true, false, List, [], ◌∷◌, ◌++◌, length, map, filter, Some, Ok, slice_get, AllPairs, Contains}
use Rattle.dep_model.specs.Dependencies.{Dependency}
use Rattle.dep_model.specs.Theories.{Theory}
use Rattle.derivation.specs.Trees.{Leaf, given, Step, Pair}
use Rattle.derivation.specs.Table.{leaf_conclusion, step_conclusion, pair_conclusion}
use Rattle.derivation_rules.specs.FurtherRules.{Further}
use Rattle.derivation_rules.specs.FurtherTable.{further_conclusion, decomposition_conclusion}

-- a rule, with the lines of its premises, from 0
pub data Why : Type 0 where
  by_leaf : Leaf → Why
  by_step : Step → ℕ → Why
  by_pair : Pair → ℕ → ℕ → Why
  by_decomposition : ℕ → Why
  by_further : Further → ℕ → ℕ → Why

-- a line: what it states, and why
pub record Line : Type 0 where
  pub stated : Dependency
  pub why : Why

-- what lines state
abbrev pub stated_by : List Line → List Dependency
stated_by lines = map (λ l. l.stated) lines

-- ---- each line is what its rule gives
-- line p of those before states x
abbrev pub States : List Dependency → ℕ → Dependency → Type 0
States before p x = slice_get before p ≡ Some x

-- a rule gives d from what earlier lines state
abbrev pub Gives : Theory → List Dependency → Why → Dependency → Type 0
Gives s before (by_leaf rule) d = leaf_conclusion s rule ≡ Ok d
Gives s before (by_step rule p) d = (x : Dependency) × States before p x × (step_conclusion s rule x ≡ Ok d)
Gives s before (by_pair rule p q) d =
    (x y : Dependency) × States before p x × States before q y × (pair_conclusion rule x y ≡ Ok d)
Gives s before (by_decomposition p) d =
    (x : Dependency) × States before p x × (decomposition_conclusion d x ≡ Ok d)
Gives s before (by_further rule p q) d =
    (x y : Dependency) × States before p x × States before q y × (further_conclusion rule x y ≡ Ok d)

-- each line is what its rule gives, after lines that state these
abbrev pub AreGiven : Theory → List Dependency → List Line → Type 0
AreGiven s before [] = Unit {0}
AreGiven s before (l ∷ ls) = Gives s before l.why l.stated × AreGiven s (before ++ l.stated ∷ []) ls

-- ---- each line but the last is used, and none is stated twice
abbrev pub premises_of : Why → List ℕ
premises_of (by_leaf rule) = []
premises_of (by_step rule p) = p ∷ []
premises_of (by_pair rule p q) = p ∷ q ∷ []
premises_of (by_decomposition p) = p ∷ []
premises_of (by_further rule p q) = p ∷ q ∷ []

-- a later line uses line k
pub record IsUsed (lines : List Line) (k : ℕ) : Type 0 where
  pub by : Line
  pub at : ℕ
  pub stands : slice_get lines at ≡ Some by
  pub later : k < at
  pub premise : Contains (premises_of by.why) k

abbrev pub EachIsUsed : List Line → Type 0
EachIsUsed lines = (k : ℕ) → k + 1 < length lines → IsUsed lines k

abbrev pub NoneIsRepeated : List Line → Type 0
NoneIsRepeated lines = AllPairs (λ l m. l.stated ≡ m.stated → ⊥) lines

-- ---- what stands as given
abbrev pub is_given : Why → Bool
is_given (by_leaf (given k)) = true
is_given _ = false

-- the dependencies that stand as given
abbrev pub givens_of : List Line → List Dependency
givens_of lines = stated_by (filter (λ l. is_given l.why) lines)
