-- Shapes that are found, and derivations that are kept: for the functions below `prove_shortly`. `Desk`
-- does not cite it.
use Rattle.std.specs.Prelude.{◌≡◌, ◌⊎◌, ◌≤◌, ◌<◌, ◌+◌, ℕ, Bool, true, false, Option, None, Some}
use Rattle.attr_sets.specs.Attributes.{Attributes}
use Rattle.attr_sets.specs.Sets.{attributes}
use Rattle.dep_model.specs.Theories.{Theory}
use Rattle.dep_model.specs.Dependencies.{Dependency, mvd}
use Rattle.derivation.specs.Conclusions.{Proves}
use Rattle.derivation.specs.Direct.{IsDirect}
use Rattle.basis_proofs.specs.JoinedProofs.{IsProofOf}
use Rattle.short_proofs.specs.declared.shapes.Shape.{Shape}
use Rattle.basis_proofs.specs.declared.proving.Proof.{Proof}
use Rattle.basis_proofs.specs.declared.proving.Proof.TheVariants.{Yes, No}
use Rattle.derivation.specs.Derivs.{tree_of}
use Rattle.short_proofs.specs.declared.pairs.Halves.{Halves}
use Rattle.short_proofs.specs.declared.pairs.Merged.{Merged}
use Rattle.derivation.specs.Trees.{Tree, nodes, leaf, given}
use Rattle.short_proofs.specs.Short.{shape, start, transitivity_of, coalescence_of, IsShort}

-- the derivation that a shape of the code stands for
abbrev pub tree_of_shape : Shape → Tree
tree_of_shape f =
    shape f.number f.replicated f.complemented f.augmented (attributes f.wide) (attributes f.narrow)
    f.turned f.again (attributes f.wide_again) (attributes f.narrow_again)

-- the derivations of two dependencies that are joined by transitivity, and by coalescence
abbrev pub tree_of_halves : Halves → Bool → Bool → Bool → Bool → Tree
tree_of_halves h lifted widened turned again =
    transitivity_of (attributes h.half.lhs) (attributes h.half.rhs) (attributes h.half.middle)
    (start h.half.first.number h.half.first.replicated h.half.first.complemented)
    (start h.second.number h.second.replicated h.second.complemented) lifted widened turned again

abbrev pub tree_of_merged : Merged → Bool → Bool → Bool → Tree
tree_of_merged m lifted cut again =
    coalescence_of (attributes m.lhs) (attributes m.rhs) (attributes m.right)
    (start m.first.number m.first.replicated m.first.complemented) (leaf (given m.number)) lifted cut again

-- how many steps these are
abbrev pub count : Bool → ℕ
count true = 1
count false = 0

-- how many nodes a start has
abbrev pub start_count : Bool → Bool → ℕ
start_count replicated complemented = 1 + count replicated + count complemented

abbrev pub shape_nodes : Bool → Bool → Bool → Bool → Bool → ℕ
shape_nodes replicated complemented augmented turned again =
    1 + count replicated + count complemented + count augmented + count turned + count again

-- a shape fits x ->> y: the derivation that it stands for proves it
abbrev pub Fits : Theory → Attributes → Attributes → Shape → Type 0
Fits s x y f = Proves s (tree_of_shape f) (mvd x y)

-- a shape was found with this many nodes at most
abbrev pub HasAtMost : Option Shape → ℕ → Type 0
HasAtMost None n = ⊥
HasAtMost (Some f) n = shape_nodes f.replicated f.complemented f.augmented f.turned f.again ≤ n

-- a shape was found that is no larger than one with these steps that proves x ->> y
abbrev pub IsNoLarger : Theory → Attributes → Attributes → ℕ → Bool → Bool → Bool → Bool → Bool → Option Shape
    → Type 0
IsNoLarger s x y k r c a t g found =
    (wide narrow wide_again narrow_again : Attributes)
    → Proves s (shape k r c a wide narrow t g wide_again narrow_again) (mvd x y)
    → HasAtMost found (shape_nodes r c a t g)

-- a derivation was kept, or gave way to a smaller one that is direct
abbrev pub IsSameOrShorter : Theory → Dependency → Tree → Tree → Type 0
IsSameOrShorter s d t u = (u ≡ t) ⊎ (IsProofOf s d u × IsDirect s u × (nodes u < nodes t))

-- a derivation that is answered is short
abbrev pub IsShortAnswer : Theory → Dependency → Proof → Type 0
IsShortAnswer s d (Yes b) = IsShort s d (tree_of b.value)
IsShortAnswer s d (No agreement) = Unit {0}
