-- What the trees of the builders prove. The sets that a builder computes are given by their members.
use Rattle.std.proofs.Common.{◌≡◌, arith, refl}
use mathlib.Core.Path.{fun_ext}
use Rattle.attr_sets.specs.Attributes.{Attributes, none, union, intersection, difference, IsSubset, Disjoint}
use Rattle.dep_model.specs.Theories.{Theory}
use Rattle.dep_model.specs.Dependencies.{fd, mvd, IsWithin}
use Rattle.dep_model.specs.Theories.{universe_of}
use Rattle.derivation.specs.Trees.{augmentation, complementation, maugmentation, transitivity, mtransitivity, Tree, step, pair}
use Rattle.derivation.specs.Builders.{intersected_block}
use Rattle.derivation.specs.Conclusions.{Proves}
use Rattle.attr_sets.proofs.AttributesLemmas.{same_at}
use Rattle.derivation.proofs.ProvesLemmas.{fd_restated, mvd_restated, augmentation_proves, complementation_proves, maugmentation_proves, transitivity_proves, mtransitivity_proves}

-- x -> xz and xz -> yz
pub united_fd_proves : (s : Theory) (t u : Tree) (x y z a c : Attributes) → a ≡ x → c ≡ z → IsSubset x (universe_of s) → IsSubset z (universe_of s)
    → Proves s t (fd x y) → Proves s u (fd x z) → Proves s (pair transitivity (step (augmentation a) u) (step (augmentation c) t)) (fd x (union y z))
united_fd_proves s t u x y z a c a_is c_is x_in z_in first second =
    let low = step (augmentation a) u in
    let high = step (augmentation c) t in
    fd_restated s (pair transitivity low high) (union x a) (union y c) x (union y z)
    (fun_ext (λ k. grind (arith, same_at a_is k))) (fun_ext (λ k. grind (arith, same_at c_is k)))
    (transitivity_proves s low high (union x a) (union z a) (union x c) (union y c) (fun_ext (λ k. grind (arith, same_at a_is k, same_at c_is k)))
    (augmentation_proves s u x z a (λ k m. x_in k (grind (arith, same_at a_is k, m))) second)
    (augmentation_proves s t x y c (λ k m. z_in k (grind (arith, same_at c_is k, m))) first))

-- x ->> xy, xy ->> z, xy ->> u - xyz, x ->> u - xyz, x ->> yz - x, and x ->> yz
pub united_mvd_proves : (s : Theory) (t u : Tree) (x y z a b e m : Attributes) → a ≡ x → b ≡ y → e ≡ none → m ≡ intersection x (union y z)
    → IsWithin (universe_of s) (mvd x y) → IsWithin (universe_of s) (mvd x z) → Proves s t (mvd x y) → Proves s u (mvd x z)
    → Proves s (step (maugmentation a m) (step complementation (pair mtransitivity (step (maugmentation a a) t) (step complementation (step (maugmentation b e) u))))) (mvd x (union y z))
united_mvd_proves s t u x y z a b e m a_is b_is e_is m_is first_in second_in first second =
    let all = universe_of s in
    let wider = step (maugmentation a a) t in
    let lifted = step (maugmentation b e) u in
    let rest = step complementation lifted in
    let outside = pair mtransitivity wider rest in
    let inside = step complementation outside in
    let a_in : IsSubset a all = λ k h. first_in.0 k (grind (arith, same_at a_is k, h)) in
    let b_in : IsSubset b all = λ k h. first_in.1 k (grind (arith, same_at b_is k, h)) in
    let beyond = difference all (union (union x b) (union z e)) in
    let left = difference beyond (union y a) in
    let wider_proves = maugmentation_proves s t x y a a a_in (λ k h. h) first in
    let lifted_proves = maugmentation_proves s u x z b e b_in (λ k h. grind (arith, same_at e_is k, h)) second in
    let rest_proves = complementation_proves s lifted (union x b) (union z e) lifted_proves in
    let outside_proves = mtransitivity_proves s wider rest (union x a) (union y a) (union x b) beyond (fun_ext (λ k. grind (arith, same_at a_is k, same_at b_is k))) wider_proves rest_proves in
    let inside_proves = complementation_proves s outside (union x a) left outside_proves in
    let top_proves = maugmentation_proves s inside (union x a) (difference all (union (union x a) left)) a m a_in (λ k h. grind (arith, same_at a_is k, same_at m_is k, h)) inside_proves in
    mvd_restated s (step (maugmentation a m) inside) (union (union x a) a) (union (difference all (union (union x a) left)) m) x (union y z)
    (fun_ext (λ k. grind (arith, same_at a_is k)))
    (fun_ext (λ k. grind (arith, same_at a_is k, same_at b_is k, same_at e_is k, same_at m_is k, first_in.1 k, second_in.1 k)))
    top_proves

-- x ->> u - w and u - w ->> t
pub split_inside_proves : (s : Theory) (t u : Tree) (x w v p : Attributes) → IsWithin (universe_of s) (mvd x w) → IsWithin (universe_of s) (mvd v p)
    → Disjoint w x → Disjoint w v → Proves s t (mvd x w) → Proves s u (mvd v p) → Proves s (intersected_block (universe_of s) x w t u) (mvd x (intersection w p))
split_inside_proves s t u x w v p first_in second_in from_x from_v first second =
    let all = universe_of s in
    let o : Attributes = difference all w in
    let rest = step complementation t in
    let wider = step (maugmentation x x) rest in
    let lifted = step (maugmentation o none) u in
    let beyond = difference all (union x w) in
    let o_in : IsSubset o all = λ k h. grind (arith, h) in
    let rest_proves = complementation_proves s t x w first in
    let wider_proves = maugmentation_proves s rest x beyond x x first_in.0 (λ k h. h) rest_proves in
    let lifted_proves = maugmentation_proves s u v p o none o_in (λ k h. grind (arith, h)) second in
    let top_proves = mtransitivity_proves s wider lifted (union x x) (union beyond x) (union v o) (union p none) (fun_ext (λ k. grind (arith, first_in.0 k, second_in.0 k, from_x k, from_v k))) wider_proves lifted_proves in
    mvd_restated s (pair mtransitivity wider lifted) (union x x) (difference (union p none) (union beyond x)) x (intersection w p)
    (fun_ext (λ k. grind arith))
    (fun_ext (λ k. grind (arith, first_in.0 k, second_in.1 k, from_x k)))
    top_proves

-- x ->> u - w and u - w ->> u - vt
pub split_outside_proves : (s : Theory) (t u : Tree) (x w v p : Attributes) → IsWithin (universe_of s) (mvd x w) → IsWithin (universe_of s) (mvd v p)
    → Disjoint w x → Disjoint w v → Proves s t (mvd x w) → Proves s u (mvd v p) → Proves s (intersected_block (universe_of s) x w t (step complementation u)) (mvd x (difference w p))
split_outside_proves s t u x w v p first_in second_in from_x from_v first second =
    let other = difference (universe_of s) (union v p) in
    mvd_restated s (intersected_block (universe_of s) x w t (step complementation u)) x (intersection w other) x (difference w p) refl (fun_ext (λ k. grind (arith, first_in.1 k, from_v k)))
    (split_inside_proves s t (step complementation u) x w v other first_in (second_in.0, (λ k h. grind (arith, h))) from_x from_v first
    (complementation_proves s u v p second))
