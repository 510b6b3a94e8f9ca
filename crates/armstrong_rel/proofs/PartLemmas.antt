-- Irreducible closed sets by what they have of the left sides.
use Rattle.std.proofs.Common.{◌≡◌, ℕ, ◌↔◌, true, false, List, get_or, sym, subst, ap, ◌∙◌, inl, inr, ⊎_elim, arith}
use Rattle.std.specs.Prelude.{All}
use Rattle.std.proofs.lemmas.Bool.{true≢false, cases_eq, cases_Bool, lt-ltb, false_from_ne_true}
use Rattle.std.proofs.lemmas.Bool.Decides.{nat_tests}
use Rattle.attr_sets.specs.Attributes.{Attributes, below, only, union, intersection, IsSubset}
use Rattle.attr_sets.proofs.AttributesLemmas.{same_from_within, tell_subset}
use Rattle.dep_model.specs.Theories.{Theory}
use Rattle.dep_model.specs.Theories.{universe_of, theory_of, deps_of}
use Rattle.dep_model.proofs.DepLemmas.{dependencies_all-from}
use Rattle.dep_model.specs.Dependencies.{Dependency, functional_part, IsWithin, left_of}
use Rattle.dep_model.specs.Keys.{InClosure}
use Rattle.fd_closure.specs.FunctionallyClosed.{IsFunctionallyClosed}
use Rattle.fd_closure.specs.LeftSides.{left_sides}
use Rattle.fd_closure.proofs.ClosedSets.{closed-to, closed-from}
use Rattle.fd_closure.proofs.LeftSideLemmas.{left_sides_in, left_sides_each}
use Rattle.armstrong_rel.specs.ClosedSets.{IsClosedSet, IsIrreducible}
use Rattle.armstrong_rel.specs.Parts.{IsClosedPart, IsShared, IsLacking, filled_but, IsFilledPart}
use Rattle.armstrong_rel.proofs.ClosedLemmas.{functional_closures, closure_more, closure_member, closure_holds, closure_closed, with_more}

-- the dependencies of a schema are over its universe
pub schema_within : (s : Theory) → All (IsWithin (universe_of s)) (theory_of s)
schema_within s = dependencies_all-from (IsWithin (universe_of s)) (deps_of s) s.valid.deps_within

-- each left side lies within them all
pub left_within : (ds : List Dependency) → All (λ d. IsSubset (left_of d) (left_sides ds)) ds
left_within ds = left_sides_each ds (left_sides ds) (λ a stands. (left_sides_in ds a).1 stands)

-- the left sides lie within the universe
pub left_sides_low : (n : ℕ) (ds : List Dependency) → All (IsWithin (below n)) ds → IsSubset (left_sides ds) (below n)
left_sides_low n ds within a member =
    let stands = (left_sides_in ds a).0 member in
    let at = stands.1 in
    (subst (λ (d : Dependency). IsWithin (below n) d) at.2 (within at.0 stands.0 at.1)).0 a stands.2

module _ (n : ℕ) (ds : List Dependency) (within : All (IsWithin (below n)) ds) (same : functional_part ds ≡ ds) where
  part_low : (z : Attributes) → IsSubset z (left_sides ds) → IsSubset z (below n)
  part_low z z_in k m = left_sides_low n ds within k (z_in k m)

  -- a part of a closed set of the left sides is closed, and so is what it determines
  filled_low : (z : Attributes) (a : ℕ) → IsSubset z (left_sides ds) → IsSubset (filled_but n ds z a) (below n)
  filled_low z a z_in k m = ⊎_elim
      (λ (member : z k ≡ true). part_low z z_in k member)
      (λ (other : z k ≡ false). grind (arith, m, other))
      (cases_Bool (z k))

  -- what a filled part has of the left sides is the part
  pub filled_part : (z : Attributes) (a : ℕ) → IsSubset z (left_sides ds) → z a ≡ false
      → intersection (filled_but n ds z a) (left_sides ds) ≡ z
  filled_part z a z_in lacks = same_from_within (intersection (filled_but n ds z a) (left_sides ds)) z
      (λ k m. grind (arith, m))
      (λ k m.
      let used = z_in k m in
      elim (cases_eq k a) [
        | inl here ↦ absurd (true≢false (sym m ∙ ap z here ∙ lacks))
        | inr other ↦ grind (arith, nat_tests, m, used, other)
      ])

  -- no dependency leads out of a closed part with all attributes in no left side but one that the part
  -- does not determine
  pub filled_closed : (z : Attributes) (a : ℕ) → IsSubset z (left_sides ds) → IsClosedPart n ds z
      → (InClosure n ds z a → ⊥) → IsClosedSet n ds (filled_but n ds z a)
  filled_closed z a z_in closed lacks =
      let c = filled_but n ds z a in
      let z_low = part_low z z_in in
      let found = functional_closures n ds within same z z_low in
      let t = found.0 in
      let t_closed = closure_closed n ds z t found.1 in
      let leads : IsFunctionallyClosed ds t = closed-to n ds t within same t_closed.closed in
      let z_in_t : IsSubset z t = closure_holds n ds z t z_low found.1 in
      let stays : IsFunctionallyClosed ds c = λ i d lt inside k m.
      let left_in_t : IsSubset (left_of (get_or ds i d)) t = λ j member.
      let in_c = inside j member in
      let used = left_within ds i d lt j member in
      z_in_t j (grind (arith, in_c, used)) in
      let in_t : t k ≡ true = leads i d lt left_in_t k m in
      let low = t_closed.universe k in_t in
      let determined = (found.1 k).0 in_t in
      elim (cases_eq k a) [
        | inl here ↦ absurd (lacks (subst (λ (b : ℕ). InClosure n ds z b) here determined))
        | inr other ↦ ⊎_elim
            (λ (used : left_sides ds k ≡ true).
            let in_z = closed k used determined in
            grind (arith, nat_tests, in_z, other))
            (λ (unused : left_sides ds k ≡ false). grind (arith, nat_tests, unused, other, low))
            (cases_Bool (left_sides ds k))
      ] in
      let c_low = filled_low z a z_in in
      record { universe = c_low; closed = closed-from n ds c within same c_low stays }

  -- a filled part is irreducible: it is closed, and each closed set that properly holds it has the attribute
  -- that it lacks
  pub filled_irreducible : (z : Attributes) (a : ℕ) → IsSubset z (left_sides ds) → IsClosedPart n ds z
      → IsLacking n ds z a → IsIrreducible n ds (filled_but n ds z a)
  filled_irreducible z a z_in closed lacking =
      let c = filled_but n ds z a in
      record {
        closed = filled_closed z a z_in closed lacking.lacks;
        attribute = a;
        universe = lacking.universe;
        outside = grind (arith, nat_tests);
        shared = λ d d_closed inside proper. ⊎_elim
            (λ beyond.
            let b = beyond.0 in
            elim (cases_eq b a) [
              | inl here ↦ ap d (sym here) ∙ beyond.2
              | inr other ↦
                  let low = lt-ltb b n beyond.1 in
                  let out = beyond.3 in
                  let used : left_sides ds b ≡ true = grind (arith, nat_tests, low, out, other) in
                  let out_z : z b ≡ false = grind (arith, nat_tests, low, out, other) in
                  let out_a : z a ≡ false = false_from_ne_true (z a) (λ m. lacking.lacks (closure_member n ds z a lacking.universe m)) in
                  let z_in_d : IsSubset z d = λ k m. inside k (elim (cases_eq k a) [
                    | inl at_a ↦ absurd (true≢false (sym m ∙ ap z at_a ∙ out_a))
                    | inr away ↦ grind (arith, nat_tests, m, away)
                  ]) in
                  d_closed.closed a (closure_more n ds (union z (only b)) d a (with_more n ds z d b z_in_d beyond.2) (lacking.shared b used out_z))
            ])
            (λ all. absurd (proper all))
            (tell_subset n d c d_closed.universe);
      }

  -- ---- an irreducible closed set is one
  module _ (c : Attributes) (is : IsIrreducible n ds c) where
    z : Attributes
    z = intersection c (left_sides ds)

    a : ℕ
    a = is.attribute

    z_in : IsSubset z (left_sides ds)
    unfolding z
    z_in k m = grind (arith, m)

    z_in_c : IsSubset z c
    unfolding z
    z_in_c k m = grind (arith, m)

    in_part : (k : ℕ) → c k ≡ true → left_sides ds k ≡ true → z k ≡ true
    unfolding z
    in_part k in_c in_l = grind (arith, in_c, in_l)

    part_closed : IsClosedPart n ds z
    unfolding z
    part_closed k used has =
        let in_c = is.closed.closed k (closure_more n ds z c k z_in_c has) in
        grind (arith, used, in_c)

    part_lacks : InClosure n ds z a → ⊥
    unfolding a
    part_lacks has = true≢false (sym (is.closed.closed a (closure_more n ds z c a z_in_c has)) ∙ is.outside)

    -- a closed set that holds it without its attribute is within it
    nothing_more : (e : Attributes) → IsClosedSet n ds e → IsSubset c e → e a ≡ false → IsSubset e c
    unfolding a
    nothing_more e closed inside out = ⊎_elim
        (λ beyond. absurd (true≢false (sym (is.shared e closed inside
        (λ all. true≢false (sym (all beyond.0 beyond.2) ∙ beyond.3))) ∙ out)))
        (λ all. all)
        (tell_subset n e c closed.universe)

    c_in_filled : (y : Attributes) → IsSubset z y → IsSubset c (filled_but n ds y a)
    unfolding z a
    c_in_filled y z_in_y k m =
        let low = is.closed.universe k m in
        let other : k ≡ a → ⊥ = λ here. true≢false (sym m ∙ ap c here ∙ is.outside) in
        ⊎_elim
        (λ (used : left_sides ds k ≡ true).
        let in_y = z_in_y k (grind (arith, m, used)) in
        grind (arith, nat_tests, in_y, other))
        (λ (unused : left_sides ds k ≡ false). grind (arith, nat_tests, unused, low, other))
        (cases_Bool (left_sides ds k))

    filled_out : (y : Attributes) → filled_but n ds y a a ≡ false
    filled_out y = grind (arith, nat_tests)

    is_filled : c ≡ filled_but n ds z a
    is_filled = same_from_within c (filled_but n ds z a)
        (c_in_filled z (λ k m. m))
        (nothing_more (filled_but n ds z a) (filled_closed z a z_in part_closed part_lacks) (c_in_filled z (λ k m. m)) (filled_out z))

    -- the part with an attribute more of the left sides determines it
    part_shared : IsShared n ds z a
    part_shared b used out =
        let more_in : IsSubset (union z (only b)) (below n) = λ k m. elim (cases_eq k b) [
          | inl here ↦ left_sides_low n ds within k (ap (left_sides ds) here ∙ used)
          | inr other ↦ left_sides_low n ds within k (z_in k (grind (arith, nat_tests, m, other)))
        ] in
        let found = functional_closures n ds within same (union z (only b)) more_in in
        let u = found.0 in
        let u_closed = closure_closed n ds (union z (only b)) u found.1 in
        let holds = closure_holds n ds (union z (only b)) u more_in found.1 in
        ⊎_elim
        (λ (has : u a ≡ true). (found.1 a).0 has)
        (λ (lacks : u a ≡ false).
        let y = intersection u (left_sides ds) in
        let y_in : IsSubset y (left_sides ds) = λ k m. grind (arith, m) in
        let y_in_u : IsSubset y u = λ k m. grind (arith, m) in
        let y_closed : IsClosedPart n ds y = λ k in_l has.
        let in_u = u_closed.closed k (closure_more n ds y u k y_in_u has) in
        grind (arith, in_l, in_u) in
        let y_lacks : InClosure n ds y a → ⊥ = λ has.
        true≢false (sym (u_closed.closed a (closure_more n ds y u a y_in_u has)) ∙ lacks) in
        let z_in_y : IsSubset z y = λ k m.
        let in_u = holds k (grind (arith, m)) in
        let in_l = z_in k m in
        grind (arith, in_u, in_l) in
        let b_in_u : u b ≡ true = holds b (grind (arith, nat_tests)) in
        let away : b ≡ a → ⊥ = λ here. true≢false (sym b_in_u ∙ ap u here ∙ lacks) in
        let b_in : filled_but n ds y a b ≡ true = grind (arith, nat_tests, b_in_u, used, away) in
        let back = nothing_more (filled_but n ds y a) (filled_closed y a y_in y_closed y_lacks) (c_in_filled y z_in_y) (filled_out y) in
        let b_in_c = back b b_in in
        absurd (true≢false (sym (in_part b b_in_c used) ∙ out)))
        (cases_Bool (u a))

    part_lacking : IsLacking n ds z a
    unfolding a
    part_lacking = record { universe = is.universe; lacks = part_lacks; shared = part_shared }

  -- what an irreducible closed set is, with its part of the left sides
  pub irreducible_filled : (c : Attributes) (is : IsIrreducible n ds c)
      → IsClosedPart n ds (intersection c (left_sides ds))
      × IsLacking n ds (intersection c (left_sides ds)) is.attribute
      × (c ≡ filled_but n ds (intersection c (left_sides ds)) is.attribute)
  unfolding z a
  irreducible_filled c is = (part_closed c is, part_lacking c is, is_filled c is)

  pub irreducible_by_parts : (c : Attributes) → IsIrreducible n ds c ↔ IsFilledPart n ds c
  irreducible_by_parts c = (
    (λ is.
        let fact = irreducible_filled c is in
        record {
          part = intersection c (left_sides ds);
          within = λ k m. grind (arith, m);
          closed = fact.0;
          attribute = is.attribute;
          lacking = fact.1;
          filled = fact.2;
        }),
    (λ filled. subst (IsIrreducible n ds) (sym filled.filled)
        (filled_irreducible filled.part filled.attribute filled.within filled.closed filled.lacking)),
  )
