-- Functional derivations that follow the closure of a left side: for the functions below `short_derivation`.
-- `Desk` does not cite it.
use Rattle.std.specs.Prelude.{◌≡◌, ◌⊎◌, ◌≤◌, ℕ, ◌+◌, ◌*◌, if◌then◌else◌, List, [], ◌∷◌, ◌++◌, length, map, All, Contains, Option, Some, slice_get}
use Rattle.attr_sets.specs.Attributes.{Attributes, IsSubset}
use Rattle.attr_sets.specs.Sets.{attributes, is_subset}
use Rattle.dep_model.specs.declared.dep.Dep.{Dep}
use Rattle.dep_model.specs.declared.dep.Dep.TheVariants.{Fd}
use Rattle.dep_model.specs.Dependencies.{Dependency, fd, mvd, right_of}
use Rattle.dep_model.specs.Deps.{dependencies_of}
use Rattle.dep_model.specs.Implication.{Implies}
use Rattle.dep_model.specs.Theories.{Theory, theory_of}
use Rattle.derivation.specs.Trees.{Tree, leaf, step, pair, given}
use Rattle.short_derivations.specs.declared.links.Link.{Link}
use Rattle.short_derivations.specs.Inferences.{Line, by_leaf, AreGiven, EachIsUsed, NoneIsRepeated, givens_of}
use Rattle.short_derivations.specs.Short.{Concludes}

-- ---- links
-- the dependency of a link
abbrev pub dep_of_link : Link → Dep
dep_of_link l = Fd l.lhs l.rhs

abbrev pub deps_of_links : List Link → List Dep
deps_of_links links = map dep_of_link links

-- what links say
abbrev pub said_by : List Link → List Dependency
said_by links = dependencies_of (deps_of_links links)

-- a link is the functional dependency of a theory at its position
abbrev pub IsLinkOf : Theory → Link → Type 0
IsLinkOf s l = slice_get (theory_of s) l.position ≡ Some (fd (attributes l.lhs) (attributes l.rhs))

-- x -> y is cut from a functional dependency with x on its left and y within its right side
abbrev pub IsCutOf : Attributes → Attributes → Dependency → Type 0
IsCutOf x y (fd v t) = (v ≡ x) × IsSubset y t
IsCutOf x y (mvd v t) = ⊥

-- a link leads out of a set
pub record LinksOut (c : Attributes) (l : Link) : Type 0 where
  pub inside : IsSubset (attributes l.lhs) c
  pub past : IsSubset (attributes l.rhs) c → ⊥

-- how many links have right sides that lie beyond a set
abbrev pub beyond : Attributes → List Link → ℕ
beyond c [] = 0
beyond c (l ∷ ls) = beyond c ls + (if is_subset (attributes l.rhs) c then 0 else 1)

-- ---- which links are needed
-- a goal follows from no dependencies of a list but d
abbrev pub IsNeeded : ℕ → Dependency → List Dependency → Dependency → Type 0
IsNeeded n goal ds d =
    (others : List Dependency) → All (λ e. Contains ds e × (e ≡ d → ⊥)) others → Implies n others goal → ⊥

-- the functional dependencies at the leaves of a tree
abbrev pub functional_one : Option Dependency → List Dependency
functional_one (Some (fd v t)) = fd v t ∷ []
functional_one _ = []

abbrev pub functional_leaves : Theory → Tree → List Dependency
functional_leaves s (leaf (given k)) = functional_one (slice_get (theory_of s) k)
functional_leaves s (leaf _) = []
functional_leaves s (step rule t) = functional_leaves s t
functional_leaves s (pair rule t u) = functional_leaves s t ++ functional_leaves s u

-- ---- chains
-- the line of a link
abbrev pub given_line : ℕ → Attributes → Attributes → Line
given_line k v t = record { stated = fd v t; why = by_leaf (given k) }

-- lines of links that lead from x to c, in which the goal x -> y stands only as the last
pub record IsChain (s : Theory) (links : List Link) (x y c : Attributes) (lines : List Line) : Type 0 where
  pub given : AreGiven s [] lines
  pub once : NoneIsRepeated lines
  pub used : EachIsUsed lines
  pub last : Concludes lines (fd x c)
  pub within : All (λ l. IsSubset (right_of l.stated) c) lines
  pub goal : All (λ l. l.stated ≡ fd x y → c ≡ y) lines
  pub holds : IsSubset x c
  pub wider : IsSubset c x → ⊥
  pub few : length lines + 1 ≤ 3 * length (givens_of lines)
  pub spent : length (givens_of lines) + beyond c links ≤ length links
  pub from : All (Contains (said_by links)) (givens_of lines)

-- the same, or no line yet
abbrev pub IsBegun : Theory → List Link → Attributes → Attributes → Attributes → List Line → Type 0
IsBegun s links x y c lines = ((lines ≡ []) × (c ≡ x)) ⊎ IsChain s links x y c lines

-- a derivation of d from what links say, of few lines
pub record IsLinked (s : Theory) (links : List Link) (d : Dependency) (lines : List Line) : Type 0 where
  pub given : AreGiven s [] lines
  pub concludes : Concludes lines d
  pub used : EachIsUsed lines
  pub once : NoneIsRepeated lines
  pub few : length lines ≤ 3 * length (givens_of lines)
  pub spent : length (givens_of lines) ≤ length links
  pub from : All (Contains (said_by links)) (givens_of lines)

-- the same, of so many lines at most
pub record IsTried (s : Theory) (links : List Link) (d : Dependency) (most : ℕ) (lines : List Line) : Type 0 where
  pub given : AreGiven s [] lines
  pub concludes : Concludes lines d
  pub used : EachIsUsed lines
  pub once : NoneIsRepeated lines
  pub few : length lines ≤ 3 * length (givens_of lines)
  pub from : All (Contains (said_by links)) (givens_of lines)
  pub fits : length lines ≤ most
