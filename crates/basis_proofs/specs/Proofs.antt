-- When an answer of `prove` is right. Of this `implies` (`desk_implication/Implication`) cites that
-- its derivation is the functional chain, where there is one.
use Rattle.std.specs.Prelude.{◌≡◌, ℕ, ◌<◌, Some, slice_get}
use Rattle.attr_sets.specs.Sets.{attributes}
use Rattle.dep_model.specs.Theories.{Theory}
use Rattle.dep_model.specs.Dependencies.{Dependency, fd, mvd, functional_part}
use Rattle.dep_model.specs.Implication.{Implies}
use Rattle.dep_model.specs.Theories.{width_of, theory_of}
use Rattle.derivation.specs.Trees.{Tree, leaf, given}
use Rattle.derivation.specs.Derivs.{tree_of}
use Rattle.basis_proofs.specs.declared.proving.Proof.{Proof}
use Rattle.basis_proofs.specs.declared.proving.Proof.TheVariants.{Yes, No}
use Rattle.dep_basis.specs.Decisions.{IsBrokenBy}
use Rattle.basis_proofs.specs.JoinedProofs.{IsProofOf}
use Rattle.derivation.specs.Chains.{IsFunctionalChain}
use Rattle.derivation.specs.Direct.{IsDirect}

-- a tree is the functional chain of a functional dependency that the functional part alone implies
abbrev pub IsChainIfFunctional : Theory → Dependency → Tree → Type 0
IsChainIfFunctional s (fd x y) t = Implies (width_of s) (functional_part (theory_of s)) (fd x y)
    → IsFunctionalChain s x y t
IsChainIfFunctional s (mvd x y) t = Unit {0}

-- dependency k is the first that is d
pub record IsFirstGiven (s : Theory) (d : Dependency) (k : ℕ) : Type 0 where
  pub given : slice_get (theory_of s) k ≡ Some d
  pub earlier : (j : ℕ) → j < k → slice_get (theory_of s) j ≡ Some d → ⊥

-- a tree is direct, and that of a given multivalued dependency is its first alone; nothing of a functional
-- chain
abbrev pub IsDirectUnlessChain : Theory → Dependency → Tree → Type 0
IsDirectUnlessChain s (fd x y) t = (Implies (width_of s) (functional_part (theory_of s)) (fd x y) → ⊥)
    → IsDirect s t
IsDirectUnlessChain s (mvd x y) t = IsDirect s t × ((k : ℕ) → IsFirstGiven s (mvd x y) k → t ≡ leaf (given k))

-- a derivation is direct, unless it is a chain
abbrev pub IsDirectAnswer : Theory → Dependency → Proof → Type 0
IsDirectAnswer s d (Yes b) = IsDirectUnlessChain s d (tree_of b.value)
IsDirectAnswer s d (No agreement) = Unit {0}

-- an answer is right: a derivation of the dependency, or two rows that obey the schema and break it
abbrev pub IsAnswer : Theory → Dependency → Proof → Type 0
IsAnswer s d (Yes b) = IsProofOf s d (tree_of b.value) × IsChainIfFunctional s d (tree_of b.value)
IsAnswer s d (No agreement) = IsBrokenBy (width_of s) (theory_of s) d (attributes agreement)

-- the answer is a derivation
abbrev pub IsYes : Proof → Type 0
IsYes (Yes b) = Unit {0}
IsYes (No agreement) = ⊥
