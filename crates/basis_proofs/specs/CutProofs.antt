-- Derivations that go with the cutting of a set down to a block: for the functions below `prove`.
-- `Desk` cites only `HasSize`.
use Rattle.std.specs.Prelude.{◌≡◌, ℕ, ◌+◌, ◌*◌, ◌<◌, ◌≤◌, true, ◌⊎◌, Some, slice_get, if◌then◌else◌}
use Rattle.attr_sets.specs.Attributes.{Attributes, only, IsSubset, count_below}
use Rattle.attr_sets.specs.Sets.{attributes}
use Rattle.attr_sets.specs.declared.set.TheConstants.{MOST_ATTRIBUTES}
use Rattle.dep_model.specs.Theories.{Theory}
use Rattle.dep_model.specs.Dependencies.{fd, mvd}
use Rattle.dep_model.specs.declared.dep.Dep.{Dep}
use Rattle.dep_model.specs.Deps.{dependency_of}
use Rattle.dep_model.specs.Theories.{width_of, universe_of, deps_of, theory_of}
use Rattle.dep_model.specs.Keys.{IsBlock}
use Rattle.derivation.specs.Trees.{Tree, nodes, depth}
use Rattle.derivation.specs.Derivs.{tree_of}
use Rattle.derivation.specs.Conclusions.{Proves}
use Rattle.basis_proofs.specs.declared.showing.PartProof.{PartProof}
use Rattle.basis_proofs.specs.declared.showing.Shown.{Shown}
use Rattle.basis_proofs.specs.declared.showing.Shown.TheVariants.{Closed, Part}
use Rattle.dep_basis.specs.Refining.{IsCandidate}
use Rattle.dep_basis.specs.Cuts.{IsCutting}

-- a tree has at most this many nodes and levels
pub record HasSize (t : Tree) (most_nodes most_levels : ℕ) : Type 0 where
  pub node_bound : nodes t ≤ most_nodes
  pub level_bound : depth t ≤ most_levels

-- a tree proves that x multidetermines a part with attribute a in it, and is small beside what was
-- cut off: eight nodes and five levels for each attribute
pub record IsPartProof (s : Theory) (x : Attributes) (a : ℕ) (w : Attributes) (t : Tree) : Type 0 where
  pub candidate : IsCandidate (width_of s) (theory_of s) x a w
  pub member : w a ≡ true
  pub proves : Proves s t (mvd x w)
  pub node_bound : nodes t + 8 * count_below w MOST_ATTRIBUTES ≤ 8 * MOST_ATTRIBUTES + 2
  pub level_bound : depth t + 5 * count_below w MOST_ATTRIBUTES ≤ 5 * MOST_ATTRIBUTES + 2

-- a tree proves that x determines attribute a
pub record IsClosedProof (s : Theory) (x : Attributes) (a : ℕ) (t : Tree) : Type 0 where
  pub proves : Proves s t (fd x (only a))
  pub size : HasSize t (8 * MOST_ATTRIBUTES + 6) (5 * MOST_ATTRIBUTES + 6)

-- a given dependency cuts the part of a derivation
pub record CanCut (s : Theory) (a k : ℕ) (dep : Dep) (from : PartProof) : Type 0 where
  pub given : slice_get (deps_of s) k ≡ Some dep
  pub cutting : IsCutting (attributes from.part) (dependency_of dep)
  pub lhs : IsSubset (attributes from.lhs) (universe_of s)
  pub attribute : a < MOST_ATTRIBUTES
  pub proof : IsPartProof s (attributes from.lhs) a (attributes from.part) (tree_of from.deriv.value)

-- a derivation for a smaller part
pub record IsNextPart (s : Theory) (a : ℕ) (from w : PartProof) : Type 0 where
  pub same_lhs : w.lhs ≡ from.lhs
  pub proof : IsPartProof s (attributes from.lhs) a (attributes w.part) (tree_of w.deriv.value)
  pub smaller : count_below (attributes w.part) MOST_ATTRIBUTES < count_below (attributes from.part) MOST_ATTRIBUTES

-- what is left of a part with attribute a in it, where one dependency cuts it
abbrev pub IsCutPart : Theory → ℕ → PartProof → Shown → Type 0
IsCutPart s a from (Closed b) = IsClosedProof s (attributes from.lhs) a (tree_of b.value)
IsCutPart s a from (Part w) = IsNextPart s a from w

-- what is proved of attribute a at last: that it is determined, or that its block is multidetermined
abbrev pub IsProofOfAttribute : Theory → Attributes → ℕ → Shown → Type 0
IsProofOfAttribute s x a (Closed b) = IsClosedProof s x a (tree_of b.value)
IsProofOfAttribute s x a (Part w) =
    IsPartProof s x a (attributes w.part) (tree_of w.deriv.value)
    × IsBlock (width_of s) (theory_of s) x (attributes w.part)
