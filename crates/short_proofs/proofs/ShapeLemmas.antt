-- Shapes: what their steps conclude, and that an augmentation by just what is missing does as well as any.
use Rattle.std.proofs.Common.{◌≡◌, ℕ, ◌+◌, ◌<◌, ◌≤◌, Bool, true, false, not, ◌&&◌, ◌||◌, refl, sym, ap, subst, ◌∙◌, arith}
use mathlib.Core.Path.{fun_ext}
use Rattle.std.specs.Prelude.{Ok, Option, None, Some, IfSome, slice_get, length}
use Rattle.std.proofs.lemmas.List.{length-map}
use Rattle.std.proofs.lemmas.Option.{slice_get_within}
use Rattle.std.proofs.lemmas.Bool.{and_parts, ltb-true}
use Rattle.attr_sets.specs.Attributes.{Attributes, union, intersection, difference, IsSubset}
use Rattle.attr_sets.specs.Sets.{is_subset}
use Rattle.attr_sets.specs.declared.set.TheConstants.{MOST_ATTRIBUTES}
use Rattle.attr_sets.proofs.AttributesLemmas.{all_below-true, same_at}
use Rattle.dep_model.specs.declared.dep.Dep.{Dep}
use Rattle.dep_model.specs.Theories.{Theory}
use Rattle.dep_model.specs.Dependencies.{Dependency, fd, mvd, left_of, right_of}
use Rattle.dep_model.specs.Deps.{dependency_of}
use Rattle.dep_model.specs.Theories.{universe_of, width_of, deps_of, theory_of}
use Rattle.derivation.specs.declared.fault.FaultKind.TheVariants.{NoSuchGiven, NotWithin}
use Rattle.derivation.specs.Trees.{Tree, Step, leaf, step, nodes, depth, given, complementation, maugmentation, replication}
use Rattle.derivation.specs.Table.{step_conclusion}
use Rattle.derivation.specs.Conclusions.{Proves}
use Rattle.derivation.specs.Shortened.{ConcludesOnly}
use Rattle.derivation.proofs.ConclusionLemmas.{Proves-one}
use Rattle.derivation.proofs.ProvesLemmas.{mvd_restated, complementation_proves, maugmentation_proves}
use Rattle.derivation.proofs.RuleTableLemmas.{cond-ok, the_ok, some_of_ok}
use Rattle.short_proofs.specs.Short.{taken, shape}
use Rattle.short_proofs.specs.Shapes.{count, shape_nodes}

-- ---- how many nodes
pub nodes-taken : (b : Bool) (rule : Step) (t : Tree) → nodes (taken b rule t) ≡ nodes t + count b
nodes-taken true rule t = refl
nodes-taken false rule t = omega arith

pub nodes-shape : (k : ℕ) (r c a : Bool) (wide narrow : Attributes) (t g : Bool) (wide_again narrow_again : Attributes)
    → nodes (shape k r c a wide narrow t g wide_again narrow_again) ≡ shape_nodes r c a t g
nodes-shape k r c a wide narrow t g wide_again narrow_again =
    let first = taken r replication (leaf (given k)) in
    let second = taken c complementation first in
    let third = taken a (maugmentation wide narrow) second in
    let fourth = taken t complementation third in
    let one = nodes-taken r replication (leaf (given k)) in
    let two = nodes-taken c complementation first in
    let three = nodes-taken a (maugmentation wide narrow) second in
    let four = nodes-taken t complementation third in
    let five = nodes-taken g (maugmentation wide_again narrow_again) fourth in
    omega (arith, one, two, three, four, five)

pub count-le : (b : Bool) → count b ≤ 1
count-le true = omega arith
count-le false = omega arith

pub depth-taken : (b : Bool) (rule : Step) (t : Tree) → depth (taken b rule t) ≡ depth t + count b
depth-taken true rule t = refl
depth-taken false rule t = omega arith

pub shape_small : (k : ℕ) (r c a : Bool) (wide narrow : Attributes) (t g : Bool) (wide_again narrow_again : Attributes)
    → (nodes (shape k r c a wide narrow t g wide_again narrow_again) ≤ 6) × (depth (shape k r c a wide narrow t g wide_again narrow_again) ≤ 6)
shape_small k r c a wide narrow t g wide_again narrow_again =
    let first = taken r replication (leaf (given k)) in
    let second = taken c complementation first in
    let third = taken a (maugmentation wide narrow) second in
    let fourth = taken t complementation third in
    let all = nodes-shape k r c a wide narrow t g wide_again narrow_again in
    let one = depth-taken r replication (leaf (given k)) in
    let two = depth-taken c complementation first in
    let three = depth-taken a (maugmentation wide narrow) second in
    let four = depth-taken t complementation third in
    let five = depth-taken g (maugmentation wide_again narrow_again) fourth in
    let rs = count-le r in
    let cs = count-le c in
    let am = count-le a in
    let ts = count-le t in
    let gs = count-le g in
    (omega (arith, all, rs, cs, am, ts, gs), omega (arith, one, two, three, four, five, rs, cs, am, ts, gs))

-- ---- what two rules ask of their premise
record IsAugmented (w z : Attributes) (e d : Dependency) : Type 0 where
  v : Attributes
  u : Attributes
  from : e ≡ mvd v u
  inside : (k : ℕ) → k < MOST_ATTRIBUTES → z k ≡ true → w k ≡ true
  to : d ≡ mvd (union v w) (union u z)

augmented_from : (s : Theory) (w z : Attributes) (e d : Dependency) → step_conclusion s (maugmentation w z) e ≡ Ok d → IsAugmented w z e d
augmented_from s w z (fd v u) d h = cc
augmented_from s w z (mvd v u) d h =
    let passed = cond-ok (is_subset w (universe_of s) && is_subset z w) NotWithin (mvd (union v w) (union u z)) d h in
    let both = and_parts (is_subset w (universe_of s)) (is_subset z w) passed.0 in
    record {
      v = v;
      u = u;
      from = refl;
      inside = λ k low m. let at = all_below-true MOST_ATTRIBUTES (λ j. not (z j) || w j) both.1 k low in grind (arith, at, m);
      to = sym passed.1;
    }

record IsComplemented (s : Theory) (e d : Dependency) : Type 0 where
  v : Attributes
  u : Attributes
  from : e ≡ mvd v u
  to : d ≡ mvd v (difference (universe_of s) (union v u))

complemented_from : (s : Theory) (e d : Dependency) → step_conclusion s complementation e ≡ Ok d → IsComplemented s e d
complemented_from s (fd v u) d h = cc
complemented_from s (mvd v u) d h = record { v = v; u = u; from = refl; to = sym (the_ok (mvd v (difference (universe_of s) (union v u))) d h) }

-- ---- the augmentation by just what is missing
module _ (s : Theory) (T : Tree) (x y : Attributes) (x_in : IsSubset x (universe_of s)) (y_in : IsSubset y (universe_of s)) (v u wide narrow : Attributes)
    (narrow_is : narrow ≡ difference (intersection x y) u) (wide_is : wide ≡ union (difference x v) narrow) (from : Proves s T (mvd v u)) where
  narrow_at : (k : ℕ) → narrow k ≡ true → x k ≡ true
  narrow_at k m = let at = same_at narrow_is k in grind (arith, at, m)

  wide_in : IsSubset wide (universe_of s)
  wide_in k m = let at = same_at wide_is k in let near = narrow_at k in x_in k (grind (arith, at, near, m))

  narrow_in : IsSubset narrow wide
  narrow_in k m = let at = same_at wide_is k in grind (arith, at, m)

  left_is : IsSubset v x → union v wide ≡ x
  left_is inside = fun_ext (λ k. let at = same_at wide_is k in let near = narrow_at k in let v_in = inside k in grind (arith, at, near, v_in))

  augments : IsSubset v x → Proves s (step (maugmentation wide narrow) T) (mvd x (union u narrow))
  augments inside = mvd_restated s (step (maugmentation wide narrow) T) (union v wide) (union u narrow) x (union u narrow) (left_is inside) refl
      (maugmentation_proves s T v u wide narrow wide_in narrow_in from)

  augments_to : Proves s (step (maugmentation wide narrow) T) (mvd (union v wide) (union u narrow))
  augments_to = maugmentation_proves s T v u wide narrow wide_in narrow_in from

  -- without a complementation after it
  just_augmented : (w z : Attributes) → ((k : ℕ) → k < MOST_ATTRIBUTES → z k ≡ true → w k ≡ true) → union v w ≡ x → union u z ≡ y
      → Proves s (step (maugmentation wide narrow) T) (mvd x y)
  just_augmented w z inside left right =
      mvd_restated s (step (maugmentation wide narrow) T) x (union u narrow) x y refl
      (fun_ext (λ k.
      let narrow_k = same_at narrow_is k in
      let right_k = same_at right k in
      let left_k = same_at left k in
      let z_in = z_at k in
      grind (arith, narrow_k, right_k, left_k, z_in)))
      (augments (λ k m. let left_k = same_at left k in grind (arith, left_k, m)))
    where
      z_at : (k : ℕ) → z k ≡ true → x k ≡ true
      z_at k m =
          let right_k = same_at right k in
          let left_k = same_at left k in
          let y_k : y k ≡ true = grind (arith, right_k, m) in
          let w_k = inside k (omega (arith, s.valid.within_limit, ltb-true k (width_of s) (y_in k y_k))) m in
          grind (arith, left_k, w_k)

  -- and with one
  augmented_and_complemented : (w z : Attributes) → ((k : ℕ) → k < MOST_ATTRIBUTES → z k ≡ true → w k ≡ true) → union v w ≡ x → difference (universe_of s) (union x (union u z)) ≡ y
      → Proves s (step complementation (step (maugmentation wide narrow) T)) (mvd x y)
  augmented_and_complemented w z inside left right =
      mvd_restated s (step complementation (step (maugmentation wide narrow) T)) x (difference (universe_of s) (union x (union u narrow))) x y refl
      (fun_ext (λ k.
      let near = narrow_at k in
      let right_k = same_at right k in
      let z_in = z_at k in
      grind (arith, near, right_k, z_in)))
      (complementation_proves s (step (maugmentation wide narrow) T) x (union u narrow) (augments (λ k m. let left_k = same_at left k in grind (arith, left_k, m))))
    where
      z_at : (k : ℕ) → universe_of s k ≡ true → z k ≡ true → x k ≡ true
      z_at k low m =
          let left_k = same_at left k in
          let w_k = inside k (omega (arith, s.valid.within_limit, ltb-true k (width_of s) low)) m in
          grind (arith, left_k, w_k)

pub just_missing : (s : Theory) (T : Tree) (e : Dependency) (a l : Bool) (w z x y wide narrow : Attributes) → IsSubset x (universe_of s) → IsSubset y (universe_of s) → Proves s T e
    → narrow ≡ difference (intersection x y) (right_of e) → wide ≡ union (difference x (left_of e)) narrow
    → Proves s (taken l complementation (taken a (maugmentation w z) T)) (mvd x y) → Proves s (taken l complementation (taken a (maugmentation wide narrow) T)) (mvd x y)
just_missing s T e false l w z x y wide narrow x_in y_in from narrow_is wide_is proves = proves
just_missing s T e true false w z x y wide narrow x_in y_in from narrow_is wide_is proves =
    let i = augmented_from s w z proves.0 (mvd x y) proves.2 in
    let e_is : e ≡ mvd i.v i.u = Proves-one s T e proves.0 from proves.1 ∙ i.from in
    just_augmented s T x y x_in y_in i.v i.u wide narrow
    (narrow_is ∙ ap (λ (d : Dependency). difference (intersection x y) (right_of d)) e_is)
    (wide_is ∙ ap (λ (d : Dependency). union (difference x (left_of d)) narrow) e_is)
    (subst (Proves s T) e_is from) w z i.inside (sym (ap left_of i.to)) (sym (ap right_of i.to))
just_missing s T e true true w z x y wide narrow x_in y_in from narrow_is wide_is proves =
    let c = complemented_from s proves.0 (mvd x y) proves.2 in
    let inner = proves.1 in
    let i = augmented_from s w z inner.0 proves.0 inner.2 in
    let e_is : e ≡ mvd i.v i.u = Proves-one s T e inner.0 from inner.1 ∙ i.from in
    let between : mvd c.v c.u ≡ mvd (union i.v w) (union i.u z) = sym c.from ∙ i.to in
    let left : union i.v w ≡ x = sym (ap left_of between) ∙ sym (ap left_of c.to) in
    let inside : union x (union i.u z) ≡ union c.v c.u = ap (λ (p : Attributes). union p (union i.u z)) (ap left_of c.to) ∙ ap (λ (p : Attributes). union c.v p) (sym (ap right_of between)) in
    augmented_and_complemented s T x y x_in y_in i.v i.u wide narrow
    (narrow_is ∙ ap (λ (d : Dependency). difference (intersection x y) (right_of d)) e_is)
    (wide_is ∙ ap (λ (d : Dependency). union (difference x (left_of d)) narrow) e_is)
    (subst (Proves s T) e_is from) w z i.inside left (ap (λ (p : Attributes). difference (universe_of s) p) inside ∙ sym (ap right_of c.to))

-- ---- the dependency of a shape
taken_from : (s : Theory) (b : Bool) (rule : Step) (t : Tree) (d : Dependency) → Proves s (taken b rule t) d → (e : Dependency) × Proves s t e
taken_from s true rule t d proves = (proves.0, proves.1)
taken_from s false rule t d proves = (d, proves)

pub shape_start : (s : Theory) (T : Tree) (a t g : Bool) (w z w2 z2 : Attributes) (d : Dependency) → Proves s (taken g (maugmentation w2 z2) (taken t complementation (taken a (maugmentation w z) T))) d
    → (e : Dependency) × Proves s T e
shape_start s T a t g w z w2 z2 d proves =
    let fifth = taken_from s g (maugmentation w2 z2) (taken t complementation (taken a (maugmentation w z) T)) d proves in
    let fourth = taken_from s t complementation (taken a (maugmentation w z) T) fifth.0 fifth.1 in
    taken_from s a (maugmentation w z) T fourth.0 fourth.1

-- ---- both augmentations by just what is missing
module _ (s : Theory) (T : Tree) (e : Dependency) (x y wide narrow : Attributes) (x_in : IsSubset x (universe_of s)) (y_in : IsSubset y (universe_of s)) (from : Proves s T e)
    (narrow_is : narrow ≡ difference (intersection x y) (right_of e)) (wide_is : wide ≡ union (difference x (left_of e)) narrow) where
  -- what proves x ->> y does so after the augmentation by nothing
  once_more : (T' : Tree) (e' : Dependency) (v u wide' narrow' : Attributes) → Proves s T' e' → Proves s T' (mvd v u)
      → narrow' ≡ difference (intersection x y) (right_of e') → wide' ≡ union (difference x (left_of e')) narrow' → v ≡ x → union u (intersection x y) ≡ y
      → Proves s (step (maugmentation wide' narrow') T') (mvd x y)
  once_more T' e' v u wide' narrow' here proves narrow_is' wide_is' left right =
      let e_is : e' ≡ mvd v u = Proves-one s T' e' (mvd v u) here proves in
      just_augmented s T' x y x_in y_in v u wide' narrow'
      (narrow_is' ∙ ap (λ (d : Dependency). difference (intersection x y) (right_of d)) e_is)
      (wide_is' ∙ ap (λ (d : Dependency). union (difference x (left_of d)) narrow') e_is)
      proves x (intersection x y) (λ k low m. grind (arith, m)) (fun_ext (λ k. let at = same_at left k in grind (arith, at))) right

  twice_augmented : (w z w2 z2 wide' narrow' : Attributes) (e' : Dependency) → Proves s (step (maugmentation wide narrow) T) e'
      → narrow' ≡ difference (intersection x y) (right_of e') → wide' ≡ union (difference x (left_of e')) narrow'
      → Proves s (step (maugmentation w2 z2) (step (maugmentation w z) T)) (mvd x y) → Proves s (step (maugmentation wide' narrow') (step (maugmentation wide narrow) T)) (mvd x y)
  twice_augmented w z w2 z2 wide' narrow' e' here narrow_is' wide_is' proves =
      let i2 = augmented_from s w2 z2 proves.0 (mvd x y) proves.2 in
      let inner = proves.1 in
      let i = augmented_from s w z inner.0 proves.0 inner.2 in
      let e_is : e ≡ mvd i.v i.u = Proves-one s T e inner.0 from inner.1 ∙ i.from in
      let between : mvd i2.v i2.u ≡ mvd (union i.v w) (union i.u z) = sym i2.from ∙ i.to in
      let left : union i.v (union w w2) ≡ x = fun_ext (λ k.
      let one = same_at (ap left_of between) k in
      let two = same_at (ap left_of i2.to) k in
      grind (arith, one, two)) in
      let right : union i.u (union z z2) ≡ y = fun_ext (λ k.
      let one = same_at (ap right_of between) k in
      let two = same_at (ap right_of i2.to) k in
      grind (arith, one, two)) in
      let middle = just_augmented s T x y x_in y_in i.v i.u wide narrow
      (narrow_is ∙ ap (λ (d : Dependency). difference (intersection x y) (right_of d)) e_is)
      (wide_is ∙ ap (λ (d : Dependency). union (difference x (left_of d)) narrow) e_is)
      (subst (Proves s T) e_is from) (union w w2) (union z z2)
      (λ k low m. let one = i.inside k low in let two = i2.inside k low in grind (arith, one, two, m)) left right in
      once_more (step (maugmentation wide narrow) T) e' x y wide' narrow' here middle narrow_is' wide_is' refl (fun_ext (λ k. grind arith))

  turned_between : (w z w2 z2 wide' narrow' : Attributes) (e' : Dependency) → Proves s (step complementation (step (maugmentation wide narrow) T)) e'
      → narrow' ≡ difference (intersection x y) (right_of e') → wide' ≡ union (difference x (left_of e')) narrow'
      → Proves s (step (maugmentation w2 z2) (step complementation (step (maugmentation w z) T))) (mvd x y)
      → Proves s (step (maugmentation wide' narrow') (step complementation (step (maugmentation wide narrow) T))) (mvd x y)
  turned_between w z w2 z2 wide' narrow' e' here narrow_is' wide_is' proves =
      let i2 = augmented_from s w2 z2 proves.0 (mvd x y) proves.2 in
      let c = complemented_from s proves.1.0 proves.0 proves.1.2 in
      let inner = proves.1.1 in
      let i = augmented_from s w z inner.0 proves.1.0 inner.2 in
      let e_is : e ≡ mvd i.v i.u = Proves-one s T e inner.0 from inner.1 ∙ i.from in
      let low : mvd c.v c.u ≡ mvd (union i.v w) (union i.u z) = sym c.from ∙ i.to in
      let high : mvd i2.v i2.u ≡ mvd c.v (difference (universe_of s) (union c.v c.u)) = sym i2.from ∙ c.to in
      let narrow_here : narrow ≡ difference (intersection x y) i.u = narrow_is ∙ ap (λ (d : Dependency). difference (intersection x y) (right_of d)) e_is in
      let wide_here : wide ≡ union (difference x i.v) narrow = wide_is ∙ ap (λ (d : Dependency). union (difference x (left_of d)) narrow) e_is in
      let left_in : IsSubset i.v x = λ k m.
      let one = same_at (ap left_of low) k in
      let two = same_at (ap left_of high) k in
      let three = same_at (ap left_of i2.to) k in
      grind (arith, one, two, three, m) in
      let middle = augments s T x y x_in y_in i.v i.u wide narrow narrow_here wide_here (subst (Proves s T) e_is from) left_in in
      let turn = complementation_proves s (step (maugmentation wide narrow) T) x (union i.u narrow) middle in
      once_more (step complementation (step (maugmentation wide narrow) T)) e' x (difference (universe_of s) (union x (union i.u narrow))) wide' narrow' here turn narrow_is' wide_is' refl
      (fun_ext (λ k.
      let l1 = same_at (ap left_of low) k in
      let l2 = same_at (ap left_of high) k in
      let l3 = same_at (ap left_of i2.to) k in
      let r1 = same_at (ap right_of low) k in
      let r2 = same_at (ap right_of high) k in
      let r3 = same_at (ap right_of i2.to) k in
      let n = same_at narrow_here k in
      let y_low = y_in k in
      let z_w = λ (u_in : universe_of s k ≡ true). i.inside k (omega (arith, s.valid.within_limit, ltb-true k (width_of s) u_in)) in
      let z2_w2 = λ (u_in : universe_of s k ≡ true). i2.inside k (omega (arith, s.valid.within_limit, ltb-true k (width_of s) u_in)) in
      grind (arith, l1, l2, l3, r1, r2, r3, n, y_low, z_w, z2_w2)))

-- the tree before the second augmentation proves something
pub turn_proves : (s : Theory) (T : Tree) (e : Dependency) (a t g : Bool) (w z w2 z2 x y wide narrow : Attributes) → IsSubset x (universe_of s) → IsSubset y (universe_of s) → Proves s T e
    → narrow ≡ difference (intersection x y) (right_of e) → wide ≡ union (difference x (left_of e)) narrow
    → Proves s (taken g (maugmentation w2 z2) (taken t complementation (taken a (maugmentation w z) T))) (mvd x y)
    → (d : Dependency) × Proves s (taken t complementation (taken a (maugmentation wide narrow) T)) d
turn_proves s T e a t false w z w2 z2 x y wide narrow x_in y_in from narrow_is wide_is proves =
    (mvd x y, just_missing s T e a t w z x y wide narrow x_in y_in from narrow_is wide_is proves)
turn_proves s T e false t true w z w2 z2 x y wide narrow x_in y_in from narrow_is wide_is proves = (proves.0, proves.1)
turn_proves s T e true false true w z w2 z2 x y wide narrow x_in y_in from narrow_is wide_is proves =
    let inner = proves.1 in
    let i = augmented_from s w z inner.0 proves.0 inner.2 in
    let e_is : e ≡ mvd i.v i.u = Proves-one s T e inner.0 from inner.1 ∙ i.from in (
      mvd (union i.v wide) (union i.u narrow),
      augments_to s T x y x_in y_in i.v i.u wide narrow
          (narrow_is ∙ ap (λ (d : Dependency). difference (intersection x y) (right_of d)) e_is)
          (wide_is ∙ ap (λ (d : Dependency). union (difference x (left_of d)) narrow) e_is)
          (subst (Proves s T) e_is from),
    )
turn_proves s T e true true true w z w2 z2 x y wide narrow x_in y_in from narrow_is wide_is proves =
    let inner = proves.1.1 in
    let i = augmented_from s w z inner.0 proves.1.0 inner.2 in
    let e_is : e ≡ mvd i.v i.u = Proves-one s T e inner.0 from inner.1 ∙ i.from in (
      mvd (union i.v wide) (difference (universe_of s) (union (union i.v wide) (union i.u narrow))),
      complementation_proves s (step (maugmentation wide narrow) T) (union i.v wide) (union i.u narrow)
          (augments_to s T x y x_in y_in i.v i.u wide narrow
          (narrow_is ∙ ap (λ (d : Dependency). difference (intersection x y) (right_of d)) e_is)
          (wide_is ∙ ap (λ (d : Dependency). union (difference x (left_of d)) narrow) e_is)
          (subst (Proves s T) e_is from)),
    )

-- each shape does as well with just what is missing
pub just_missing_twice : (s : Theory) (T : Tree) (e e' : Dependency) (a t g : Bool) (w z w2 z2 x y wide narrow wide' narrow' : Attributes) → IsSubset x (universe_of s) → IsSubset y (universe_of s) → Proves s T e
    → narrow ≡ difference (intersection x y) (right_of e) → wide ≡ union (difference x (left_of e)) narrow
    → Proves s (taken t complementation (taken a (maugmentation wide narrow) T)) e' → narrow' ≡ difference (intersection x y) (right_of e') → wide' ≡ union (difference x (left_of e')) narrow'
    → Proves s (taken g (maugmentation w2 z2) (taken t complementation (taken a (maugmentation w z) T))) (mvd x y)
    → Proves s (taken g (maugmentation wide' narrow') (taken t complementation (taken a (maugmentation wide narrow) T))) (mvd x y)
just_missing_twice s T e e' a t false w z w2 z2 x y wide narrow wide' narrow' x_in y_in from narrow_is wide_is here narrow_is' wide_is' proves =
    just_missing s T e a t w z x y wide narrow x_in y_in from narrow_is wide_is proves
just_missing_twice s T e e' false t true w z w2 z2 x y wide narrow wide' narrow' x_in y_in from narrow_is wide_is here narrow_is' wide_is' proves =
    just_missing s (taken t complementation T) e' true false w2 z2 x y wide' narrow' x_in y_in here narrow_is' wide_is' proves
just_missing_twice s T e e' true false true w z w2 z2 x y wide narrow wide' narrow' x_in y_in from narrow_is wide_is here narrow_is' wide_is' proves =
    twice_augmented s T e x y wide narrow x_in y_in from narrow_is wide_is w z w2 z2 wide' narrow' e' here narrow_is' wide_is' proves
just_missing_twice s T e e' true true true w z w2 z2 x y wide narrow wide' narrow' x_in y_in from narrow_is wide_is here narrow_is' wide_is' proves =
    turned_between s T e x y wide narrow x_in y_in from narrow_is wide_is w z w2 z2 wide' narrow' e' here narrow_is' wide_is' proves

pub shape_given : (s : Theory) (k : ℕ) (r c a : Bool) (wide narrow : Attributes) (t g : Bool) (wide_again narrow_again : Attributes) (d : Dependency)
    → Proves s (shape k r c a wide narrow t g wide_again narrow_again) d → k < length (deps_of s)
shape_given s k r c a wide narrow t g wide_again narrow_again d proves =
    let third = shape_start s (taken c complementation (taken r replication (leaf (given k)))) a t g wide narrow wide_again narrow_again d proves in
    let second = taken_from s c complementation (taken r replication (leaf (given k))) third.0 third.1 in
    let first = taken_from s r replication (leaf (given k)) second.0 second.1 in
    let found = some_of_ok (slice_get (theory_of s) k) NoSuchGiven first.0 first.1 in
    omega (arith, slice_get_within (theory_of s) k first.0 found, length-map (deps_of s) dependency_of)

-- ---- what is tried of a shape
-- by what a dependency is augmented, if there is one
abbrev pub IsMissing : Attributes → Attributes → Attributes → Attributes → Option Dep → Type 0
IsMissing x y wide narrow dep =
    IfSome dep (λ from. narrow ≡ difference (intersection x y) (right_of (dependency_of from)))
    × IfSome dep (λ from. wide ≡ union (difference x (left_of (dependency_of from))) narrow)

-- where some shape with these steps proves x ->> y, the one that is tried does
pub shape_missed : (start turn : Option Dep) (s : Theory) (T : Tree) (a t g : Bool) (w z w2 z2 x y wide narrow wide' narrow' : Attributes) → IsSubset x (universe_of s) → IsSubset y (universe_of s)
    → ConcludesOnly s T start → IsMissing x y wide narrow start → ConcludesOnly s (taken t complementation (taken a (maugmentation wide narrow) T)) turn → IsMissing x y wide' narrow' turn
    → Proves s (taken g (maugmentation w2 z2) (taken t complementation (taken a (maugmentation w z) T))) (mvd x y)
    → Proves s (taken g (maugmentation wide' narrow') (taken t complementation (taken a (maugmentation wide narrow) T))) (mvd x y)
shape_missed None turn s T a t g w z w2 z2 x y wide narrow wide' narrow' x_in y_in only missing after missing' proves =
    let some = shape_start s T a t g w z w2 z2 (mvd x y) proves in
    absurd (only some.0 some.1)
shape_missed (Some from) None s T a t g w z w2 z2 x y wide narrow wide' narrow' x_in y_in only missing after missing' proves =
    let some = turn_proves s T (dependency_of from) a t g w z w2 z2 x y wide narrow x_in y_in only missing.0 missing.1 proves in
    absurd (after some.0 some.1)
shape_missed (Some from) (Some turned) s T a t g w z w2 z2 x y wide narrow wide' narrow' x_in y_in only missing after missing' proves =
    just_missing_twice s T (dependency_of from) (dependency_of turned) a t g w z w2 z2 x y wide narrow wide' narrow' x_in y_in only missing.0 missing.1 after missing'.0 missing'.1 proves
