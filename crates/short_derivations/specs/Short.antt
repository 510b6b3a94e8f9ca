-- When a derivation of a goal is short: for `short_derivation` and `explain implies`.
use Rattle.std.specs.Prelude.{◌≡◌, ◌≤◌, ℕ, ◌+◌, ◌*◌, List, [], ◌∷◌, ◌++◌, length, All, Contains}
use Rattle.attr_sets.specs.Attributes.{Attributes, IsSubset}
use Rattle.dep_model.specs.Dependencies.{Dependency, fd, mvd, functional_part}
use Rattle.dep_model.specs.Implication.{Implies}
use Rattle.dep_model.specs.Theories.{Theory, theory_of, width_of}
use Rattle.derivation.specs.Trees.{given}
use Rattle.short_derivations.specs.Inferences.{Line, by_leaf, AreGiven, EachIsUsed, NoneIsRepeated, givens_of}

-- the last line states the goal
abbrev pub Concludes : List Line → Dependency → Type 0
Concludes lines goal = (before : List Line) × (last : Line) × (lines ≡ before ++ last ∷ []) × (last.stated ≡ goal)

-- the goal follows from the functional dependencies of a theory
abbrev pub FollowsFunctionally : Theory → Dependency → Type 0
FollowsFunctionally s goal = Implies (width_of s) (functional_part (theory_of s)) goal

-- a line that states a dependency of the theory, as given
abbrev pub IsGivenAlone : List Line → Dependency → Type 0
IsGivenAlone lines goal = (k : ℕ) × (lines ≡ record { stated = goal; why = by_leaf (given k) } ∷ [])

-- the left side of a functional goal is that of a dependency of the theory, and its right side lies within
-- that one's
abbrev pub IsPartOfGiven : Theory → Dependency → Type 0
IsPartOfGiven s goal =
    (x y z : Attributes) × (goal ≡ fd x y) × Contains (theory_of s) (fd x z) × IsSubset y z

-- no dependency that stands as given can be spared: the goal follows from no others among them
abbrev pub NoneIsSpared : Theory → Dependency → List Line → Type 0
NoneIsSpared s goal lines =
    (d : Dependency) → Contains (givens_of lines) d
    → (others : List Dependency) → All (λ e. Contains (givens_of lines) e × (e ≡ d → ⊥)) others
    → Implies (width_of s) others goal → ⊥

-- a functional goal that is no dependency of the theory and follows from the functional ones: none can be
-- spared
abbrev pub SparesNone : Theory → Dependency → List Line → Type 0
SparesNone s (fd x y) lines =
    (Contains (theory_of s) (fd x y) → ⊥) → FollowsFunctionally s (fd x y) → NoneIsSpared s (fd x y) lines
SparesNone s (mvd x y) lines = Unit {0}

-- and there are few lines for those that stand as given
abbrev pub IsThrifty : Theory → Dependency → List Line → Type 0
IsThrifty s (fd x y) lines = FollowsFunctionally s (fd x y) → length lines ≤ 3 * length (givens_of lines) + 1
IsThrifty s (mvd x y) lines = Unit {0}

-- a derivation of a goal as short as one may ask: each line is what its rule gives, the last states the goal,
-- each other is used, and none is repeated; a goal of the theory is one line, and a part of one two at most;
-- none that stand as given can be spared, and there are few lines for them
pub record IsShortDerivation (s : Theory) (goal : Dependency) (lines : List Line) : Type 0 where
  pub given : AreGiven s [] lines
  pub concludes : Concludes lines goal
  pub used : EachIsUsed lines
  pub once : NoneIsRepeated lines
  pub alone : Contains (theory_of s) goal → IsGivenAlone lines goal
  pub two : IsPartOfGiven s goal → length lines ≤ 2
  pub spared : SparesNone s goal lines
  pub thrifty : IsThrifty s goal lines
