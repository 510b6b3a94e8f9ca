-- Closures of sets of attributes: for the functions of armstrong_rel and its law on irreducible sets.
-- `Desk` does not cite it.
use Rattle.std.specs.Prelude.{◌≡◌, ℕ, ◌<◌, ◌↔◌, true, false, List}
use Rattle.attr_sets.specs.Attributes.{Attributes, only, union}
use Rattle.dep_model.specs.Dependencies.{Dependency}
use Rattle.dep_model.specs.Keys.{InClosure}

-- m is the intersection of the closures of x with each attribute outside it, one at a time; all of the
-- universe where there is none
abbrev pub IsIntersectionBeyond : ℕ → List Dependency → Attributes → Attributes → Type 0
IsIntersectionBeyond n ds x m =
    (k : ℕ) → (m k ≡ true)
    ↔ (k < n) × ((a : ℕ) → a < n → x a ≡ false → InClosure n ds (union x (only a)) k)
