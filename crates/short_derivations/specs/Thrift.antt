-- A derivation from functional dependencies, none of which can be spared, of so many lines at most: for the
-- functions below `short_derivation`. `Desk` does not cite it.
use Rattle.std.specs.Prelude.{◌≤◌, ℕ, ◌*◌, List, [], length}
use Rattle.dep_model.specs.Dependencies.{Dependency}
use Rattle.dep_model.specs.Theories.{Theory}
use Rattle.short_derivations.specs.Inferences.{Line, AreGiven, EachIsUsed, NoneIsRepeated, givens_of}
use Rattle.short_derivations.specs.Short.{Concludes, NoneIsSpared, IsShortDerivation}

pub record IsThriftyOf (s : Theory) (goal : Dependency) (most : ℕ) (lines : List Line) : Type 0 where
  pub given : AreGiven s [] lines
  pub concludes : Concludes lines goal
  pub used : EachIsUsed lines
  pub once : NoneIsRepeated lines
  pub spared : NoneIsSpared s goal lines
  pub few : length lines ≤ 3 * length (givens_of lines)
  pub fits : length lines ≤ most

-- a short derivation of so many lines at most
pub record IsShortOf (s : Theory) (goal : Dependency) (most : ℕ) (lines : List Line) : Type 0 where
  pub short : IsShortDerivation s goal lines
  pub fits : length lines ≤ most
