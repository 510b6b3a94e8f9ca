-- A tree made shorter: for `shorten` and the functions below it. `Desk` does not cite it.
use Rattle.std.specs.Prelude.{◌≡◌, ◌<◌, ◌≤◌, ◌^◌, ◌↔◌, Option, None, Some}
use Rattle.dep_model.specs.declared.dep.Dep.{Dep}
use Rattle.dep_model.specs.Theories.{Theory}
use Rattle.dep_model.specs.Dependencies.{Dependency}
use Rattle.dep_model.specs.Deps.{dependency_of}
use Rattle.derivation.specs.declared.shortening.Concluded.{Concluded}
use Rattle.derivation.specs.declared.shortening.Sought.{Sought}
use Rattle.derivation.specs.declared.shortening.Sought.TheVariants.{Found, Whole}
use Rattle.derivation.specs.Trees.{Tree, nodes, depth}
use Rattle.derivation.specs.Derivs.{tree_of}
use Rattle.derivation.specs.Conclusions.{Proves}
use Rattle.derivation.specs.Direct.{IsIn, IsDirect}

-- a tree concludes this, or nothing
abbrev pub ConcludesOnly : Theory → Tree → Option Dep → Type 0
ConcludesOnly s t None = (d : Dependency) → Proves s t d → ⊥
ConcludesOnly s t (Some dep) = Proves s t (dependency_of dep)

-- a derivation of this tree, beside what it concludes
pub record IsConcluded (s : Theory) (t : Tree) (whole : Concluded) : Type 0 where
  pub same : tree_of whole.deriv.value ≡ t
  pub only : ConcludesOnly s t whole.dep

-- the smallest part of a tree that concludes d
pub record IsLeast (s : Theory) (t : Tree) (d : Dependency) (u : Tree) : Type 0 where
  pub part : IsIn u t
  pub proves : Proves s u d
  pub least : (v : Tree) → IsIn v t → Proves s v d → nodes u ≤ nodes v

-- the search for d in a tree found the smallest part that concludes it, or no part does
abbrev pub IsSought : Theory → Tree → Dependency → Sought → Type 0
IsSought s t d (Found b) = IsLeast s t d (tree_of b.value)
IsSought s t d (Whole whole) = IsConcluded s t whole × ((u : Tree) → IsIn u t → Proves s u d → ⊥)

-- what was found has fewer than 2 ^ 32 nodes
abbrev pub NodesFit : Sought → Type 0
NodesFit (Found b) = nodes (tree_of b.value) < 2 ^ 32
NodesFit (Whole whole) = nodes (tree_of whole.deriv.value) < 2 ^ 32

-- the smallest part of a tree that concludes what the tree concludes, and nothing where it concludes nothing
pub record IsLeastPart (s : Theory) (t : Tree) (result : Concluded) : Type 0 where
  pub part : IsIn (tree_of result.deriv.value) t
  pub same : (d : Dependency) → Proves s t d ↔ Proves s (tree_of result.deriv.value) d
  pub only : ConcludesOnly s (tree_of result.deriv.value) result.dep
  pub least : (u : Tree) (d : Dependency) → IsIn u t → Proves s t d → Proves s u d
      → nodes (tree_of result.deriv.value) ≤ nodes u

-- a direct tree that concludes exactly what another does, and is no larger
pub record IsShortened (s : Theory) (t : Tree) (result : Concluded) : Type 0 where
  pub same : (d : Dependency) → Proves s t d ↔ Proves s (tree_of result.deriv.value) d
  pub only : ConcludesOnly s (tree_of result.deriv.value) result.dep
  pub node_bound : nodes (tree_of result.deriv.value) ≤ nodes t
  pub level_bound : depth (tree_of result.deriv.value) ≤ depth t
  pub direct : IsDirect s (tree_of result.deriv.value)
