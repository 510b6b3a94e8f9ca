-- What a tree of one node more proves.
use Rattle.std.proofs.Common.{◌≡◌, refl, subst, ap, ◌∙◌}
use Rattle.attr_sets.specs.Attributes.{Attributes, union, difference, IsSubset, Disjoint}
use Rattle.attr_sets.proofs.AttributesLemmas.{is_subset-from, is_same-from, is_disjoint-from}
use Rattle.dep_model.specs.Theories.{Theory}
use Rattle.dep_model.specs.Dependencies.{fd, mvd}
use Rattle.dep_model.specs.Theories.{universe_of}
use Rattle.derivation.specs.Trees.{reflexivity, mreflexivity, augmentation, complementation, maugmentation, transitivity, mtransitivity, coalescence, Tree, leaf, step, pair}
use Rattle.derivation.specs.Conclusions.{Proves}

-- ---- the same sets, said otherwise
pub fd_restated : (s : Theory) (t : Tree) (x y v w : Attributes) → x ≡ v → y ≡ w → Proves s t (fd x y) → Proves s t (fd v w)
fd_restated s t x y v w left right proves =
    let e : fd x y ≡ fd v w = ap (λ (p : Attributes). fd p y) left ∙ ap (λ (p : Attributes). fd v p) right in
    subst (Proves s t) e proves

pub mvd_restated : (s : Theory) (t : Tree) (x y v w : Attributes) → x ≡ v → y ≡ w → Proves s t (mvd x y) → Proves s t (mvd v w)
mvd_restated s t x y v w left right proves =
    let e : mvd x y ≡ mvd v w = ap (λ (p : Attributes). mvd p y) left ∙ ap (λ (p : Attributes). mvd v p) right in
    subst (Proves s t) e proves

-- ---- leaves
pub reflexivity_proves : (s : Theory) (x y : Attributes) → IsSubset x (universe_of s) → IsSubset y x → Proves s (leaf (reflexivity x y)) (fd x y)
reflexivity_proves s x y inside within = rw (is_subset-from x (universe_of s) inside, is_subset-from y x within) refl

pub mreflexivity_proves : (s : Theory) (x y : Attributes) → IsSubset x (universe_of s) → IsSubset y x → Proves s (leaf (mreflexivity x y)) (mvd x y)
mreflexivity_proves s x y inside within = rw (is_subset-from x (universe_of s) inside, is_subset-from y x within) refl

-- ---- one premise
pub augmentation_proves : (s : Theory) (t : Tree) (x y z : Attributes) → IsSubset z (universe_of s) → Proves s t (fd x y) → Proves s (step (augmentation z) t) (fd (union x z) (union y z))
augmentation_proves s t x y z inside proves = (fd x y, proves, rw (is_subset-from z (universe_of s) inside) refl)

pub complementation_proves : (s : Theory) (t : Tree) (x y : Attributes) → Proves s t (mvd x y) → Proves s (step complementation t) (mvd x (difference (universe_of s) (union x y)))
complementation_proves s t x y proves = (mvd x y, proves, refl)

pub maugmentation_proves : (s : Theory) (t : Tree) (x y w z : Attributes) → IsSubset w (universe_of s) → IsSubset z w → Proves s t (mvd x y) → Proves s (step (maugmentation w z) t) (mvd (union x w) (union y z))
maugmentation_proves s t x y w z inside within proves = (mvd x y, proves, rw (is_subset-from w (universe_of s) inside, is_subset-from z w within) refl)

-- ---- two premises
pub transitivity_proves : (s : Theory) (t u : Tree) (x y v z : Attributes) → y ≡ v → Proves s t (fd x y) → Proves s u (fd v z) → Proves s (pair transitivity t u) (fd x z)
transitivity_proves s t u x y v z middle first second = (fd x y, fd v z, first, second, rw (is_same-from y v middle) refl)

pub mtransitivity_proves : (s : Theory) (t u : Tree) (x y v z : Attributes) → y ≡ v → Proves s t (mvd x y) → Proves s u (mvd v z) → Proves s (pair mtransitivity t u) (mvd x (difference z y))
mtransitivity_proves s t u x y v z middle first second = (mvd x y, mvd v z, first, second, rw (is_same-from y v middle) refl)

pub coalescence_proves : (s : Theory) (t u : Tree) (x y z w : Attributes) → IsSubset w y → Disjoint z y → Proves s t (mvd x y) → Proves s u (fd z w) → Proves s (pair coalescence t u) (fd x w)
coalescence_proves s t u x y z w within apart first second =
    (mvd x y, fd z w, first, second, rw (is_subset-from w y within, is_disjoint-from z y apart) refl)
