-- What a tree proves, and its first fault where it proves nothing: for `conclude`, the law of
-- soundness, certificates and all that derives.
use Rattle.std.specs.Prelude.{◌≡◌, ℕ, ◌+◌, Result, Ok, Err}
use Rattle.dep_model.specs.Theories.{Theory}
use Rattle.dep_model.specs.Dependencies.{Dependency}
use Rattle.derivation.specs.declared.fault.Fault.{Fault}
use Rattle.derivation.specs.declared.fault.FaultKind.{FaultKind}
use Rattle.derivation.specs.Trees.{Tree, leaf, step, pair, nodes}
use Rattle.derivation.specs.Table.{leaf_conclusion, step_conclusion, pair_conclusion}

-- each node's conclusion is that of the rule table over its premises' conclusions, and the root's is d
abbrev pub Proves : Theory → Tree → Dependency → Type 0
Proves s (leaf rule) d = leaf_conclusion s rule ≡ Ok d
Proves s (step rule t) d = (x : Dependency) × Proves s t x × (step_conclusion s rule x ≡ Ok d)
Proves s (pair rule t u) d =
    (x y : Dependency) × Proves s t x × Proves s u y × (pair_conclusion rule x y ≡ Ok d)

-- a conclusion is handed on to the next step, and a fault is the end
infixl 10 ◌>>=◌
abbrev pub ◌>>=◌ : {A B : Type 0} → Result A Fault → (A → Result B Fault) → Result B Fault
(Ok x) >>= f = f x
(Err e) >>= f = Err e

-- what the rule of the node of this number gives
abbrev pub at_node : ℕ → Result Dependency FaultKind → Result Dependency Fault
at_node n (Ok d) = Ok d
at_node n (Err kind) = Err (record { node = n; kind = kind })

-- what a tree concludes, or its first fault in post-order, after this many nodes
abbrev pub conclusion_after : Theory → ℕ → Tree → Result Dependency Fault
conclusion_after s before (leaf rule) = at_node (before + 1) (leaf_conclusion s rule)
conclusion_after s before (step rule t) = do
  x ← conclusion_after s before t
  at_node (before + nodes t + 1) (step_conclusion s rule x)
conclusion_after s before (pair rule t u) = do
  x ← conclusion_after s before t
  y ← conclusion_after s (before + nodes t) u
  at_node (before + nodes t + nodes u + 1) (pair_conclusion rule x y)
