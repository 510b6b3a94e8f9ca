-- The list of all that rows obey, as it is put together.
use Rattle.std.proofs.Common.{◌≡◌, ℕ, true, List, ◌++◌, refl, sym, ap, subst, ◌∙◌, length, take, drop, arith}
use Rattle.std.specs.Prelude.{All}
use Rattle.std.proofs.lemmas.List.{drop_at, take_at}
use Rattle.std.proofs.lemmas.List.Elements.{All-weaker}
use Rattle.attr_sets.specs.Attributes.{Attributes, below, only}
use Rattle.dep_model.specs.Dependencies.{Dependency, IsWithin, Obeys, mvd}
use Rattle.dep_model.specs.Deps.{IsDepWithin, dependencies_of}
use Rattle.dep_model.specs.Tuples.{Relation}
use Rattle.dep_model.specs.declared.dep.Dep.{Dep}
use Rattle.dep_model.proofs.DepLemmas.{dependencies_all-to}
use Rattle.fd_discovery.specs.Minimal.{AreAllMinimal, IsMinimalFd}
use Rattle.min_cover.specs.Covers.{IsThinned}
use Rattle.mvd_laws.specs.Reduced.{AreAllReduced, IsReducedMvd}

pub minimal_obeyed : (n : ℕ) (r : Relation) (fds : List Dependency) → AreAllMinimal n r fds → All (λ d. Obeys n d r) fds
minimal_obeyed n r fds are = All-weaker (IsMinimalFd n r) (λ (d : Dependency). Obeys n d r)
    (λ d is. subst (λ (e : Dependency). Obeys n e r) (sym is.2) is.3.minimal.obeys) fds are.each

pub reduced_within : (n : ℕ) (r : Relation) (ds : List Dep) → AreAllReduced n r (dependencies_of ds) → All (IsDepWithin (below n)) ds
reduced_within n r ds are = dependencies_all-to (IsWithin (below n)) ds (All-weaker (IsReducedMvd n r) (IsWithin (below n))
    (λ d is. subst (IsWithin (below n)) (sym is.2) (is.3.left, is.3.block.part.within)) (dependencies_of ds) are.each)

-- a list of two parts, cut where the first one ends
pub parted : {X : Type 0} (whole xs ys : List X) (from : ℕ) → whole ≡ xs ++ ys → from ≡ length xs → (take from whole ≡ xs) × (drop from whole ≡ ys)
parted {X} whole xs ys from is at =
    (ap (λ (zs : List X). take from zs) is ∙ take_at xs ys from (sym at), ap (λ (zs : List X). drop from zs) is ∙ drop_at xs ys from (sym at))

-- what is left of the second part, after the first
pub thinned_parts : (n : ℕ) (whole xs ys : List Dep) (from : ℕ) (rest : List Dependency) → whole ≡ xs ++ ys → from ≡ length xs
    → IsThinned n (dependencies_of (take from whole)) (dependencies_of (drop from whole)) rest → IsThinned n (dependencies_of xs) (dependencies_of ys) rest
thinned_parts n whole xs ys from rest is at thinned =
    let parts = parted whole xs ys from is at in
    subst (λ (ds : List Dep). IsThinned n (dependencies_of xs) (dependencies_of ds) rest) parts.1
    (subst (λ (ds : List Dep). IsThinned n (dependencies_of ds) (dependencies_of (drop from whole)) rest) parts.0 thinned)
