-- The lines of a derivation that is a tree, each once: for the functions of `emitting.rt`. `Desk` does not
-- cite it.
use Rattle.std.specs.Prelude.{◌≡◌, ◌⊎◌, ◌≤◌, ◌<◌, ℕ, ◌+◌, List, [], ◌++◌, length, All, Contains, Some, slice_get}
use Rattle.dep_model.specs.Dependencies.{Dependency}
use Rattle.dep_model.specs.Theories.{Theory}
use Rattle.derivation.specs.Trees.{Tree, nodes}
use Rattle.derivation.specs.Conclusions.{Proves}
use Rattle.derivation.specs.Direct.{IsIn}
use Rattle.short_derivations.specs.Inferences.{Line, AreGiven, IsUsed, EachIsUsed, NoneIsRepeated, stated_by}
use Rattle.short_derivations.specs.Short.{Concludes}

-- lines that their rules give, none of them repeated
pub record AreWritten (s : Theory) (lines : List Line) : Type 0 where
  pub given : AreGiven s [] lines
  pub once : NoneIsRepeated lines

-- d is stated before, or some part of a tree proves it
abbrev pub IsStatedOrPart : Theory → Tree → List Line → Dependency → Type 0
IsStatedOrPart s t before d = Contains (stated_by before) d ⊎ ((u : Tree) × IsIn u t × Proves s u d)

-- the lines of a tree were added to others: line `at` states what it proves, each other new one is used, and
-- each states what some part of the tree proves
pub record AreEmitted (s : Theory) (t : Tree) (old : List Line) (at : ℕ) (lines : List Line) : Type 0 where
  pub added : List Line
  pub whole : lines ≡ old ++ added
  pub written : AreWritten s lines
  pub states : (d : Dependency) → Proves s t d → slice_get (stated_by lines) at ≡ Some d
  pub used : (k : ℕ) → length old ≤ k → k < length lines → IsUsed lines k ⊎ (k ≡ at)
  pub few : length lines ≤ length old + nodes t
  pub parts : All (λ d. IsStatedOrPart s t old d) (stated_by lines)
  pub last : (at + 1 ≡ length lines) ⊎ (lines ≡ old)

-- a derivation of d, of so many lines at most
pub record IsEmission (s : Theory) (d : Dependency) (most : ℕ) (lines : List Line) : Type 0 where
  pub given : AreGiven s [] lines
  pub concludes : Concludes lines d
  pub used : EachIsUsed lines
  pub once : NoneIsRepeated lines
  pub fits : length lines ≤ most
