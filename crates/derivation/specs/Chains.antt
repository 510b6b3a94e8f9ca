-- The functional chain, which is the run of the closure algorithm as a derivation: for `implies`,
-- by `basis_proofs/Proofs`, and for the laws of `chain_laws`.
use Rattle.std.specs.Prelude.{◌≡◌, ℕ, zero, suc, ◌<◌, Some, slice_get}
use Rattle.attr_sets.specs.Attributes.{Attributes, union, IsSubset}
use Rattle.dep_model.specs.Theories.{Theory}
use Rattle.dep_model.specs.Dependencies.{fd, LeadsOut}
use Rattle.dep_model.specs.Theories.{theory_of}
use Rattle.derivation.specs.Trees.{Tree, leaf, step, pair, given, reflexivity, augmentation, transitivity}

-- dependency k is the first functional one that leads out of c, and t is its right side
pub record IsFirstOut (s : Theory) (c : Attributes) (k : ℕ) (t : Attributes) : Type 0 where
  pub lhs : Attributes
  pub given : slice_get (theory_of s) k ≡ Some (fd lhs t)
  pub out : LeadsOut c (fd lhs t)
  pub earlier : (j : ℕ) (v w : Attributes) → j < k → slice_get (theory_of s) j ≡ Some (fd v w) → IsSubset v c
      → IsSubset w c

-- a set that x is known to determine, and the tree that proves it
pub record Stage : Type 0 where
  pub closed : Attributes
  pub tree : Tree

-- x -> x
abbrev pub first_stage : Attributes → Stage
first_stage x = record { closed = x; tree = leaf (reflexivity x x) }

-- from x -> c by dependency k with the right side t: x -> ct
abbrev pub next_stage : Stage → ℕ → Attributes → Stage
next_stage a k t = record {
  closed = union a.closed t;
  tree = pair transitivity a.tree (step (augmentation a.closed) (leaf (given k)));
}

-- m steps lead to a stage, each by the first dependency that leads out of the set, and none once y is within
abbrev pub Reaches : Theory → Attributes → Attributes → ℕ → Stage → Type 0
Reaches s x y zero a = a ≡ first_stage x
Reaches s x y (suc m) a =
    (b : Stage) × (k : ℕ) × (t : Attributes) × Reaches s x y m b × (IsSubset y b.closed → ⊥)
    × IsFirstOut s b.closed k t × (a ≡ next_stage b k t)

-- a tree is the functional chain of x -> y: steps until y is within the set, and at last the
-- reflexivity that leaves y
pub record IsFunctionalChain (s : Theory) (x y : Attributes) (tree : Tree) : Type 0 where
  pub steps : ℕ
  pub last : Stage
  pub reached : Reaches s x y steps last
  pub holds : IsSubset y last.closed
  pub whole : tree ≡ pair transitivity last.tree (leaf (reflexivity last.closed y))
