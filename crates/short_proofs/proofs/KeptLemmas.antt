-- Shapes that are chosen, and derivations that are kept.
use Rattle.std.proofs.Common.{◌≡◌, ℕ, ◌≤◌, ◌⊎◌, Bool, true, false, refl, sym, ap, subst, ◌∙◌, inl, inr, ⊎_elim, arith}
use Rattle.std.specs.Prelude.{Option, IfSome}
use Rattle.attr_sets.specs.Attributes.{Attributes}
use Rattle.dep_model.specs.Theories.{Theory}
use Rattle.dep_model.specs.Dependencies.{Dependency, fd, mvd}
use Rattle.derivation.specs.Trees.{Tree, leaf, step, pair, nodes, given}
use Rattle.derivation.specs.Direct.{IsDirect}
use Rattle.basis_proofs.specs.JoinedProofs.{IsProofOf}
use Rattle.basis_proofs.specs.Proofs.{IsFirstGiven, IsDirectUnlessChain}
use Rattle.short_proofs.specs.declared.shapes.Shape.{Shape}
use Rattle.short_proofs.specs.Shapes.{Fits, HasAtMost, IsNoLarger, IsSameOrShorter}

-- what holds of both
by_flag : (P : Bool → Type 0) (b : Bool) → P true → P false → P b
by_flag P true first second = first
by_flag P false first second = second

pub of_both : (P : Bool → Type 0) → P true → P false → (b : Bool) → P b
of_both P first second b = by_flag P b first second

-- ---- the smaller of two shapes
pub smaller_fits : (s : Theory) (x y : Attributes) (one other result : Option Shape) → (result ≡ one) ⊎ (result ≡ other) → IfSome one (Fits s x y) → IfSome other (Fits s x y) → IfSome result (Fits s x y)
smaller_fits s x y one other result either first second =
    ⊎_elim (λ same. subst (λ (o : Option Shape). IfSome o (Fits s x y)) (sym same) first) (λ same. subst (λ (o : Option Shape). IfSome o (Fits s x y)) (sym same) second) either

pub no_larger_more : (s : Theory) (x y : Attributes) (k : ℕ) (r c a t g : Bool) (found result : Option Shape) → ((n : ℕ) → HasAtMost found n → HasAtMost result n)
    → IsNoLarger s x y k r c a t g found → IsNoLarger s x y k r c a t g result
no_larger_more s x y k r c a t g found result more before wide narrow wide_again narrow_again proves = more _ (before wide narrow wide_again narrow_again proves)

-- ---- derivations that are kept
pub kept_same : (s : Theory) (d : Dependency) (t : Tree) → IsSameOrShorter s d t t
kept_same s d t = inl refl

pub kept_no_longer : (s : Theory) (d : Dependency) (t u : Tree) → IsSameOrShorter s d t u → nodes u ≤ nodes t
kept_no_longer s d t u kept = ⊎_elim (λ same. let e : nodes u ≡ nodes t = ap nodes same in omega (arith, e)) (λ other. let less = other.2 in omega (arith, less)) kept

pub kept_proof : (s : Theory) (d : Dependency) (t u : Tree) → IsProofOf s d t → IsSameOrShorter s d t u → IsProofOf s d u
kept_proof s d t u proof kept = ⊎_elim (λ same. subst (IsProofOf s d) (sym same) proof) (λ other. other.0) kept

pub kept_further : (s : Theory) (d : Dependency) (t u v : Tree) → IsSameOrShorter s d t u → IsSameOrShorter s d u v → IsSameOrShorter s d t v
kept_further s d t u v first second =
    ⊎_elim
    (λ same. subst (λ (w : Tree). IsSameOrShorter s d t w) (sym same) first)
    (λ other. let le = kept_no_longer s d t u first in let less = other.2 in inr (other.0, other.1, omega (arith, le, less)))
    second

pub some_nodes : (t : Tree) → 1 ≤ nodes t
some_nodes (leaf rule) = omega arith
some_nodes (step rule t) = omega arith
some_nodes (pair rule t u) = omega arith

-- what is kept of a direct tree is direct, and the first given one alone where it was that
pub kept_direct : (s : Theory) (x y : Attributes) (t u : Tree) → IsSameOrShorter s (mvd x y) t u → IsDirect s t × ((k : ℕ) → IsFirstGiven s (mvd x y) k → t ≡ leaf (given k))
    → IsDirect s u × ((k : ℕ) → IsFirstGiven s (mvd x y) k → u ≡ leaf (given k))
kept_direct s x y t u kept direct =
    ⊎_elim
    (λ same. (subst (IsDirect s) (sym same) direct.0, λ k first. same ∙ direct.1 k first))
    (λ other. (
      other.1,
      λ k first.
          let one : nodes t ≡ 1 = ap nodes (direct.1 k first) in
          let some = some_nodes u in
          let less = other.2 in
          absurd (omega (arith, one, some, less)),
    ))
    kept

pub kept_direct_fd : (s : Theory) (x y : Attributes) (t u : Tree) → IsSameOrShorter s (fd x y) t u → IsDirectUnlessChain s (fd x y) t → IsDirectUnlessChain s (fd x y) u
kept_direct_fd s x y t u kept direct no_chain = ⊎_elim (λ same. subst (IsDirect s) (sym same) (direct no_chain)) (λ other. other.1) kept
