-- The attributes of left sides, one dependency of a list after the other, and what they give of each.
use Rattle.std.proofs.Common.{◌≡◌, ℕ, ◌↔◌, ◌⊎◌, true, List, [], ◌∷◌, ◌++◌, sym, ap, subst, ◌∙◌, inl, inr, arith}
use mathlib.Core.Path.{fun_ext}
use Rattle.std.proofs.lemmas.Bool.{false≢true, or_cases}
use Rattle.std.proofs.lemmas.List.Elements.{Contains-get_or, Contains-append_left, Contains-append_right, Contains-append_cases, Contains-push, Contains-push_cases, filter-append}
use Rattle.std.specs.Prelude.{All}
use Rattle.attr_sets.specs.Attributes.{Attributes, union, IsSubset}
use Rattle.attr_sets.proofs.AttributesLemmas.{same_at}
use Rattle.dep_model.specs.Dependencies.{Dependency, fd, is_fd, functional_part, left_of}
use Rattle.dep_model.proofs.ListLemmas.{Contains-head, Contains-later, Contains-cases}
use Rattle.fd_closure.specs.LeftSides.{left_sides, InLeftSide, InLeftSideWithin}

-- ---- all left sides
-- one dependency more
pub left_sides_push : (ds : List Dependency) (e : Dependency) → left_sides (ds ++ e ∷ []) ≡ union (left_sides ds) (left_of e)
left_sides_push [] e = fun_ext (λ k. grind arith)
left_sides_push (d ∷ ds) e = ap (union (left_of d)) (left_sides_push ds e) ∙ fun_ext (λ k. grind arith)

-- their union has the attributes that stand in one of them
pub left_sides_in : (ds : List Dependency) (a : ℕ) → (left_sides ds a ≡ true) ↔ InLeftSide ds a
left_sides_in [] a = ((λ m. absurd (false≢true m)), (λ h. absurd (omega (arith, h.1.1))))
left_sides_in (d ∷ ds) a = (
  (λ m. elim (or_cases (left_of d a) (left_sides ds a) m) [
    | inl here ↦ (d, Contains-head d ds, here)
    | inr later ↦ let h = (left_sides_in ds a).0 later in (h.0, Contains-later d ds h.0 h.1, h.2)
  ]),
  (λ h. elim (Contains-cases d ds h.0 h.1) [
    | inl first ↦ let m : left_of d a ≡ true = ap (λ (e : Dependency). left_of e a) (sym first) ∙ h.2 in grind (arith, m)
    | inr later ↦ let m = (left_sides_in ds a).1 (h.0, later, h.2) in grind (arith, m)
  ]),
)

-- a set that has them has each left side
pub left_sides_each : (ds : List Dependency) (l : Attributes) → ((a : ℕ) → InLeftSide ds a → l a ≡ true) → All (λ d. IsSubset (left_of d) l) ds
left_sides_each ds l have k d short a m = have a (_, Contains-get_or ds k d short, m)

-- ---- left sides within a set
-- what a functional dependency adds
pub within_added : (reach x y before after : Attributes) → IsSubset x reach → after ≡ union before x → (a : ℕ) → (after a ≡ true) ↔ ((before a ≡ true) ⊎ InLeftSideWithin reach (fd x y ∷ []) a)
within_added reach x y before after inside is a = (
  (λ m. elim (or_cases (before a) (x a) (sym (same_at is a) ∙ m)) [
    | inl old ↦ inl old
    | inr new ↦ inr (fd x y, Contains-push [] (fd x y), inside, new)
  ]),
  (λ h. elim h [
    | inl old ↦ grind (arith, same_at is a, old)
    | inr new ↦ elim (Contains-push_cases [] (fd x y) new.0 new.1) [
      | inl none ↦ absurd (omega (arith, none.1))
      | inr here ↦ let m : x a ≡ true = ap (λ (d : Dependency). left_of d a) here ∙ new.3 in grind (arith, same_at is a, m)
    ]
  ]),
)

-- nothing, where its left side does not lie within
pub within_kept : (reach x y before : Attributes) → (IsSubset x reach → ⊥) → (a : ℕ) → (before a ≡ true) ↔ ((before a ≡ true) ⊎ InLeftSideWithin reach (fd x y ∷ []) a)
within_kept reach x y before beyond a = (
  (λ m. inl m),
  (λ h. elim h [
    | inl old ↦ old
    | inr new ↦ elim (Contains-push_cases [] (fd x y) new.0 new.1) [
      | inl none ↦ absurd (omega (arith, none.1))
      | inr here ↦ absurd (beyond (subst (λ (d : Dependency). IsSubset (left_of d) reach) (sym here) new.2))
    ]
  ]),
)

-- and nothing where there is none
pub within_none : (reach before : Attributes) (a : ℕ) → (before a ≡ true) ↔ ((before a ≡ true) ⊎ InLeftSideWithin reach [] a)
within_none reach before a = ((λ m. inl m), (λ h. elim h [ inl old ↦ old | inr new ↦ absurd (omega (arith, new.1.1)) ]))

-- one dependency more
pub within_push : (ds : List Dependency) (e : Dependency) (reach before after : Attributes) → ((a : ℕ) → (before a ≡ true) ↔ InLeftSideWithin reach (functional_part ds) a)
    → ((a : ℕ) → (after a ≡ true) ↔ ((before a ≡ true) ⊎ InLeftSideWithin reach (functional_part (e ∷ [])) a))
    → (a : ℕ) → (after a ≡ true) ↔ InLeftSideWithin reach (functional_part (ds ++ e ∷ [])) a
within_push ds e reach before after are grows a =
    let fs = functional_part ds in
    let es = functional_part (e ∷ []) in
    subst (λ (gs : List Dependency). (after a ≡ true) ↔ InLeftSideWithin reach gs a) (sym (filter-append is_fd ds (e ∷ []))) (
      (λ m. elim ((grows a).0 m) [
        | inl old ↦ let h = (are a).0 old in (h.0, Contains-append_left fs es h.0 h.1, h.2, h.3)
        | inr new ↦ (new.0, Contains-append_right fs es new.0 new.1, new.2, new.3)
      ]),
      (λ h. elim (Contains-append_cases fs es h.0 h.1) [
        | inl old ↦ (grows a).1 (inl ((are a).1 (h.0, old, h.2, h.3)))
        | inr new ↦ (grows a).1 (inr (h.0, new, h.2, h.3))
      ]),
    )

-- a set that has them has each left side that lies within
pub within_each : (ds : List Dependency) (reach l : Attributes) → ((a : ℕ) → InLeftSideWithin reach ds a → l a ≡ true) → All (λ d. IsSubset (left_of d) reach → IsSubset (left_of d) l) ds
within_each ds reach l have k d short inside a m = have a (_, Contains-get_or ds k d short, inside, m)
