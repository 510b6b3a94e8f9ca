-- A derivation within the limits of a certificate: for `prove` and `implies`
-- (`desk_implication/Implication`). The rest is for the functions that put right sides together.
use Rattle.std.specs.Prelude.{◌≡◌, ℕ, ◌+◌, ◌*◌, ◌≤◌, true}
use Rattle.attr_sets.specs.Attributes.{Attributes, IsSubset, Disjoint, count_below}
use Rattle.attr_sets.specs.Sets.{attributes}
use Rattle.attr_sets.specs.declared.set.TheConstants.{MOST_ATTRIBUTES}
use Rattle.dep_model.specs.Theories.{Theory}
use Rattle.dep_model.specs.Dependencies.{Dependency, mvd}
use Rattle.dep_model.specs.Theories.{ImpliedBy}
use Rattle.derivation.specs.Trees.{Tree, nodes, depth}
use Rattle.derivation.specs.Derivs.{tree_of}
use Rattle.derivation.specs.Conclusions.{Proves}
use Rattle.derivation.specs.declared.measures.TheConstants.{MOST_NODES, MOST_LEVELS}
use Rattle.basis_proofs.specs.declared.showing.PartProof.{PartProof}
use Rattle.basis_proofs.specs.CutProofs.{HasSize}

-- a tree proves a dependency, within the limits of a certificate
pub record IsProofOf (s : Theory) (d : Dependency) (t : Tree) : Type 0 where
  pub proves : Proves s t d
  pub size : HasSize t MOST_NODES MOST_LEVELS

-- a derivation for a set with attribute a in it, which lies within each implied right side with a in it
pub record IsSetProof (s : Theory) (x : Attributes) (a : ℕ) (w : PartProof) : Type 0 where
  pub member : attributes w.part a ≡ true
  pub proves : Proves s (tree_of w.deriv.value) (mvd x (attributes w.part))
  pub size : HasSize (tree_of w.deriv.value) (8 * MOST_ATTRIBUTES + 8) (5 * MOST_ATTRIBUTES + 8)
  pub within : (y : Attributes) → ImpliedBy s (mvd x y) → y a ≡ true → IsSubset (attributes w.part) y

-- what is left of a right side, and a small tree for the rest of it
pub record IsLeft (x y left : Attributes) (t : Tree) : Type 0 where
  pub within : IsSubset left y
  pub apart : Disjoint left x
  pub node_bound : nodes t + (8 * MOST_ATTRIBUTES + 14) * count_below left MOST_ATTRIBUTES
      ≤ (8 * MOST_ATTRIBUTES + 14) * MOST_ATTRIBUTES + 1
  pub level_bound : depth t + 5 * count_below left MOST_ATTRIBUTES ≤ 10 * MOST_ATTRIBUTES + 8
