-- Dependencies between sets within the width, as dependencies of the code.
use Rattle.std.proofs.Common.{◌≡◌, ◌≤◌, ◌<◌, ◌^◌, ℕ, true, List, [], ◌∷◌, refl, ap₂, arith}
use Rattle.std.specs.Prelude.{All}
use Rattle.std.proofs.lemmas.Bool.{lt-ltb, ltb-true}
use Rattle.std.proofs.lemmas.List.Elements.{All-nil, All-cons, All-head, All-tail}
use Rattle.attr_sets.specs.Attributes.{Attributes, below, IsSubset}
use Rattle.attr_sets.specs.Sets.{attributes}
use Rattle.attr_sets.specs.declared.set.AttrSet.{AttrSet}
use Rattle.attr_sets.specs.declared.set.TheConstants.{MOST_ATTRIBUTES}
use Rattle.attr_sets.proofs.AttributesLemmas.{set_of_attributes}
use Rattle.dep_model.specs.declared.dep.Dep.{Dep}
use Rattle.dep_model.specs.declared.dep.Dep.TheVariants.{Fd, Mvd}
use Rattle.dep_model.specs.Dependencies.{Dependency, fd, mvd, IsWithin}
use Rattle.dep_model.specs.Deps.{dependency_of, dependencies_of}
use Rattle.schema_model.specs.Validity.{HasSetNumbers}

pub coded_set : (n : ℕ) (x : Attributes) → n ≤ MOST_ATTRIBUTES → IsSubset x (below n)
    → (s : AttrSet) × (s.0 < 2 ^ MOST_ATTRIBUTES) × (attributes s ≡ x)
coded_set n x limit x_in = set_of_attributes x (λ k m. lt-ltb k MOST_ATTRIBUTES (omega (arith, limit, ltb-true k n (x_in k m))))

coded_dependency : (n : ℕ) (d : Dependency) → n ≤ MOST_ATTRIBUTES → IsWithin (below n) d
    → (e : Dep) × (dependency_of e ≡ d) × HasSetNumbers e
coded_dependency n (fd x y) limit within =
    let left = coded_set n x limit within.0 in
    let right = coded_set n y limit within.1 in
    (Fd left.0 right.0, ap₂ fd left.2 right.2, (left.1, right.1))
coded_dependency n (mvd x y) limit within =
    let left = coded_set n x limit within.0 in
    let right = coded_set n y limit within.1 in
    (Mvd left.0 right.0, ap₂ mvd left.2 right.2, (left.1, right.1))

pub coded_dependencies : (n : ℕ) (ds : List Dependency) → n ≤ MOST_ATTRIBUTES → All (IsWithin (below n)) ds
    → (deps : List Dep) × (dependencies_of deps ≡ ds) × All HasSetNumbers deps
coded_dependencies n [] limit within = ([], refl, All-nil HasSetNumbers)
coded_dependencies n (d ∷ ds) limit within =
    let first = coded_dependency n d limit (All-head (IsWithin (below n)) d ds within) in
    let rest = coded_dependencies n ds limit (All-tail (IsWithin (below n)) d ds within) in
    (first.0 ∷ rest.0, ap₂ ◌∷◌ first.1 rest.1, All-cons HasSetNumbers first.0 rest.0 first.2 rest.2)
