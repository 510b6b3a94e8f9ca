-- Whether two dependencies are one.
use Rattle.std.proofs.Common.{◌≡◌, ◌↔◌, IsTrue, true, refl, subst}
use Rattle.std.proofs.lemmas.Bool.{and_parts}
use Rattle.attr_sets.specs.Sets.{is_same}
use Rattle.attr_sets.proofs.AttributesLemmas.{is_same-true, is_same-from, attributes_below}
use Rattle.dep_model.specs.declared.dep.Dep.{Dep}
use Rattle.dep_model.specs.declared.dep.Dep.TheVariants.{Fd, Mvd}
use Rattle.dep_model.specs.Dependencies.{Dependency, fd, mvd, left_of, right_of}
use Rattle.dep_model.specs.Deps.{dependency_of}
use Rattle.derivation.proofs.WithinLemmas.{OfAttributes}
use Rattle.proof_grammar.specs.Nodes.{same_dependency}

pub same_there : (d e : Dependency) → OfAttributes (left_of d) → OfAttributes (right_of d) → OfAttributes (left_of e) → OfAttributes (right_of e) → same_dependency d e ≡ true → d ≡ e
same_there (fd x y) (fd v w) left right first second h =
    let parts = and_parts (is_same x v) (is_same y w) h in
    (λ i. fd (is_same-true x v left first parts.0 i)
    (is_same-true y w right second parts.1 i))
same_there (fd x y) (mvd v w) left right first second h = cc
same_there (mvd x y) (fd v w) left right first second h = cc
same_there (mvd x y) (mvd v w) left right first second h =
    let parts = and_parts (is_same x v) (is_same y w) h in
    (λ i. mvd (is_same-true x v left first parts.0 i)
    (is_same-true y w right second parts.1 i))

pub same_self : (d : Dependency) → same_dependency d d ≡ true
same_self (fd x y) = rw (is_same-from x x refl, is_same-from y y refl) refl
same_self (mvd x y) = rw (is_same-from x x refl, is_same-from y y refl) refl

sides_attributes : (d : Dep)
    → OfAttributes (left_of (dependency_of d)) × OfAttributes (right_of (dependency_of d))
sides_attributes (Fd x y) = (attributes_below x, attributes_below y)
sides_attributes (Mvd x y) = (attributes_below x, attributes_below y)

pub decides_same : (a b : Dep) → IsTrue (same_dependency (dependency_of a) (dependency_of b)) ↔ (dependency_of a ≡ dependency_of b)
decides_same a b =
    let left = sides_attributes a in
    let right = sides_attributes b in (
      same_there (dependency_of a) (dependency_of b) left.0 left.1 right.0 right.1,
      λ e. subst (λ (d : Dependency). same_dependency (dependency_of a) d ≡ true) e
          (same_self (dependency_of a)),
    )
