-- Subsets that a search passes over: those between a set and the last that comes of it by adding
-- attributes before its first. None of them violates a form where the smaller one is a superkey, or
-- where the larger one determines nothing beyond itself and has no attributes in different parts.
use Rattle.std.proofs.Common.{◌≡◌, ℕ, ◌<◌, ◌≤◌, ◌↔◌, true, false, List, sym, ap, ◌∙◌, inl, inr, ⊎_elim, arith}
use Rattle.std.proofs.lemmas.Bool.{true≢false, cases_Bool, cases_eq, cases_lt, false_from_ne_true, ltb-true, or_cases}
use Rattle.std.proofs.lemmas.Bool.Decides.{nat_tests}
use Rattle.attr_sets.specs.Attributes.{Attributes, below, only, union, intersection, difference, IsSubset, IsBefore, IsFirstFrom, IsEmpty}
use Rattle.attr_sets.proofs.AttributesLemmas.{same_at}
use Rattle.dep_model.specs.Dependencies.{Dependency, mvd}
use Rattle.dep_model.specs.OnSchemes.{ImpliedOn}
use Rattle.dep_model.specs.Keys.{IsSuperkey, InClosure}
use Rattle.dep_model.proofs.KeyLemmas.{superkey_more, fd_on-to}
use Rattle.dep_basis.specs.Parts.{HasTwoParts}
use Rattle.dep_model.specs.declared.form.Form.TheVariants.{Bcnf}
use Rattle.normal_forms.specs.Breaking.{Breaks}
use Rattle.normal_forms.specs.Primes.{BecomesSuperkeyBy}
use Rattle.normal_forms.specs.Passing.{LiesBetween, PassesOver, HasNoPartsAbout}
use Rattle.normal_forms.proofs.AddedLemmas.{closure_more}
use Rattle.normal_forms.proofs.BreakLemmas.{closed_superkey}
use Rattle.normal_forms.proofs.ViolationLemmas.{beyond_in}

-- ---- what comes of a set
module _ (whole set low most : Attributes) (i : ℕ) (first : IsFirstFrom set 0 i) (low_is : low ≡ below i) (is : most ≡ union set (intersection whole low)) (x : Attributes) (x_in : IsSubset x whole)
    (after : IsBefore set x) (not_later : IsBefore most x → ⊥) where
  same_from : (j : ℕ) → i ≤ j → most j ≡ set j
  same_from j on = grind (arith, nat_tests, same_at is j, same_at low_is j)

  earlier : after.0 < i
  earlier = ⊎_elim
      (λ (less : after.0 < i). less)
      (λ (on : i ≤ after.0). absurd (not_later (after.0, same_from after.0 on ∙ after.1, after.2, λ j more. same_from j (omega (arith, on, more)) ∙ after.3 j more)))
      (cases_lt after.0 i)

  at_or_after : (j : ℕ) → i ≤ j → set j ≡ x j
  at_or_after j on = after.3 j (omega (arith, on, earlier))

  pub filled_between : LiesBetween set most x
  filled_between = (
    (λ j m. ⊎_elim
        (λ (less : j < i). absurd (true≢false (sym m ∙ first.least j (omega arith) less)))
        (λ (on : i ≤ j). sym (at_or_after j on) ∙ m)
        (cases_lt j i)),
    (λ j m. ⊎_elim
        (λ (less : j < i). let inside = x_in j m in grind (arith, nat_tests, same_at is j, same_at low_is j, inside))
        (λ (on : i ≤ j). same_from j on ∙ at_or_after j on ∙ m)
        (cases_lt j i)),
  )

-- of the empty set comes each subset
pub empty_between : (whole set x : Attributes) → IsEmpty set → IsSubset x whole → LiesBetween set whole x
empty_between whole set x empty x_in = ((λ j m. absurd (true≢false (sym m ∙ empty j))), x_in)

-- ---- what is passed over
-- nothing, after the set itself
pub passes_none : (P : Attributes → Type 0) (whole set : Attributes) → PassesOver P whole set set
passes_none P whole set x x_in after not_later p = not_later after

-- what is said of fewer sets
pub passes_weaker : (P Q : Attributes → Type 0) (whole set last : Attributes) → ((x : Attributes) → Q x → P x) → PassesOver P whole set last → PassesOver Q whole set last
passes_weaker P Q whole set last gives passes x x_in after not_later q = passes x x_in after not_later (gives x q)

-- ---- sets that determine nothing beyond themselves
module _ (n : ℕ) (ds : List Dependency) (scheme least most : Attributes) (low : IsSubset scheme (below n)) (most_in : IsSubset most scheme) where
  -- above a superkey all are superkeys
  pub superkey_between : (closed : Attributes) → IsSubset least most → ((a : ℕ) → (closed a ≡ true) ↔ InClosure n ds least a) → IsSubset scheme closed
      → (x : Attributes) → LiesBetween least most x → (IsSuperkey n ds scheme x → ⊥) → ⊥
  superkey_between closed less exact all x between none =
      none (superkey_more n ds scheme least x between.0 (λ k m. most_in k (between.1 k m)) (closed_superkey n ds scheme least closed (λ k m. most_in k (less k m)) exact all))

  -- an attribute that is determined beyond a set is determined without it by the larger set
  pub none_determined : (closed found : Attributes) → ((a : ℕ) → (closed a ≡ true) ↔ InClosure n ds most a) → found ≡ intersection closed scheme → IsSubset found most
      → ((a : ℕ) → most a ≡ true → least a ≡ false → InClosure n ds (difference most (only a)) a → ⊥)
      → (x : Attributes) → LiesBetween least most x → Breaks n ds Bcnf scheme x → ⊥
  none_determined closed found exact is inside independent x between b =
      let a = b.1.0 in
      let on = b.1.1.0 in
      let out : x a ≡ false = b.1.1.1 in
      let a_in = beyond_in n ds scheme x a on in
      let here : InClosure n ds x a = (ltb-true a n (low a a_in), fd_on-to n ds scheme x (only a) on) in
      elim (cases_Bool (most a)) [
        | inl member ↦ independent a member (false_from_ne_true (least a) (λ m. true≢false (sym (between.0 a m) ∙ out)))
            (closure_more n ds x (difference most (only a)) a (beside x a out between.1) here)
        | inr beyond ↦
            let in_closed = (exact a).1 (closure_more n ds x most a between.1 here) in
            true≢false (sym (inside a (same_at is a ∙ grind (arith, in_closed, a_in))) ∙ beyond)
      ]
    where
      beside : (x : Attributes) (a : ℕ) → x a ≡ false → IsSubset x most → IsSubset x (difference most (only a))
      beside x a out x_in j m = elim (cases_eq j a) [
        | inl same ↦ absurd (true≢false (sym m ∙ ap x same ∙ out))
        | inr other ↦ let member = x_in j m in grind (arith, nat_tests, member, other)
      ]

-- ---- sets without two parts
-- what a set multidetermines a larger one does
mvd_more_on : (n : ℕ) (ds : List Dependency) (scheme x m y : Attributes) → IsSubset x m → IsSubset m scheme → ImpliedOn n ds scheme (mvd x y) → ImpliedOn n ds scheme (mvd m y)
mvd_more_on n ds scheme x m y inside m_in on = record {
  within = (m_in, on.within.1);
  obeyed = λ r legal t u t_in u_in agree.
      let w = on.obeyed r legal t u t_in u_in (λ k e. agree k (inside k e)) in (
        w.0,
        w.1,
        (λ k e. elim (cases_Bool (union x y k)) [
          | inl near ↦ w.2 k near
          | inr far ↦
              let in_m : m k ≡ true = grind (arith, e, far) in
              w.3 k (let in_scheme = m_in k in_m in grind (arith, in_scheme, far)) ∙ sym (agree k in_m)
        ]),
        (λ k e. w.3 k (beyond k e)),
      );
}
  where
    beyond : (k : ℕ) → difference scheme (union m y) k ≡ true → difference scheme (union x y) k ≡ true
    beyond k e = elim (cases_Bool (x k)) [
      | inl near ↦ let in_m = inside k near in absurd (true≢false (grind (arith, e, in_m)))
      | inr far ↦ grind (arith, e, far)
    ]

-- and so a larger set that lacks attributes in different parts has two
two_parts_more : (n : ℕ) (ds : List Dependency) (scheme x m : Attributes) → IsSubset x m → IsSubset m scheme → (h : HasTwoParts n ds scheme x) → m h.not_empty.0 ≡ false → m h.rest.0 ≡ false
    → HasTwoParts n ds scheme m
two_parts_more n ds scheme x m inside m_in h a_out b_out = record {
  rhs = h.rhs;
  implied = mvd_more_on n ds scheme x m h.rhs inside m_in h.implied;
  not_empty = (h.not_empty.0, grind (arith, h.not_empty.1, a_out), h.not_empty.2);
  rest = (h.rest.0, grind (arith, h.rest.1, b_out), h.rest.2);
}

module _ (n : ℕ) (ds : List Dependency) (scheme least most : Attributes) (most_in : IsSubset most scheme) (about : HasNoPartsAbout n ds scheme least most)
    (without : (a : ℕ) → most a ≡ true → least a ≡ false → HasNoPartsAbout n ds scheme least (difference most (only a))) where
  module _ (x : Attributes) (between : LiesBetween least most x) (h : HasTwoParts n ds scheme x) where
    lacks : (a : ℕ) → difference scheme x a ≡ true → least a ≡ false
    lacks a m = false_from_ne_true (least a) (λ here. true≢false (sym (between.0 a here) ∙ grind (arith, m)))

    beside : (v : Attributes) (a : ℕ) → IsSubset x v → difference scheme x a ≡ true → IsSubset x (difference v (only a))
    beside v a inside m j e = elim (cases_eq j a) [
      | inl same ↦ let here : x a ≡ true = sym (ap x same) ∙ e in absurd (true≢false (grind (arith, m, here)))
      | inr other ↦ let member = inside j e in grind (arith, nat_tests, member, other)
    ]

    left_in : (v : Attributes) (a : ℕ) → IsSubset v scheme → IsSubset (difference v (only a)) scheme
    left_in v a v_in j m = v_in j (grind (arith, m))

    gone : (v : Attributes) (a : ℕ) → difference v (only a) a ≡ false
    gone v a = grind (arith, nat_tests)

    out_still : (v : Attributes) (a b : ℕ) → v b ≡ false → difference v (only a) b ≡ false
    out_still v a b out = grind (arith, out)

    differ : h.rest.0 ≡ h.not_empty.0 → ⊥
    differ same = let in_rhs : h.rhs h.rest.0 ≡ true = ap h.rhs same ∙ h.not_empty.2 in true≢false (grind (arith, in_rhs, h.rest.2))

    pub no_two_parts : ⊥
    no_two_parts =
        let a = h.not_empty.0 in
        let b = h.rest.0 in
        elim (cases_Bool (most a)) [
          | inl a_in ↦
              let at_a = without a a_in (lacks a h.not_empty.1) in
              let x_in = beside most a between.1 h.not_empty.1 in
              elim (cases_Bool (most b)) [
                | inl b_in ↦ at_a.1 b (both b_in) (lacks b h.rest.1)
                    (two_parts_more n ds scheme x (difference (difference most (only a)) (only b)) (beside (difference most (only a)) b x_in h.rest.1)
                    (left_in (difference most (only a)) b (left_in most a most_in)) h (out_still (difference most (only a)) b a (gone most a)) (gone (difference most (only a)) b))
                | inr b_out ↦ at_a.0 (two_parts_more n ds scheme x (difference most (only a)) x_in (left_in most a most_in) h (gone most a) (out_still most a b b_out))
              ]
          | inr a_out ↦ elim (cases_Bool (most b)) [
            | inl b_in ↦ about.1 b b_in (lacks b h.rest.1)
                (two_parts_more n ds scheme x (difference most (only b)) (beside most b between.1 h.rest.1) (left_in most b most_in) h (out_still most b a a_out) (gone most b))
            | inr b_out ↦ about.0 (two_parts_more n ds scheme x most between.1 most_in h a_out b_out)
          ]
        ]
      where
        both : most h.rest.0 ≡ true → difference most (only h.not_empty.0) h.rest.0 ≡ true
        both member = let other = differ in grind (arith, nat_tests, member, other)

-- ---- superkeys by an attribute
-- none, where the smaller set with the rest is a superkey, or the larger with the attribute is none
pub none_becomes : (n : ℕ) (ds : List Dependency) (scheme rest least most : Attributes) (a : ℕ) → IsSubset rest scheme → IsSubset most scheme → scheme a ≡ true
    → IsSuperkey n ds scheme (union least rest) → (x : Attributes) → LiesBetween least most x → BecomesSuperkeyBy n ds scheme (union x rest) a → ⊥
none_becomes n ds scheme rest least most a rest_in most_in a_in superkey x between becomes =
    becomes.1 (superkey_more n ds scheme (union least rest) (union x rest) (λ j m. elim (or_cases (least j) (rest j) m) [
      | inl near ↦ let member = between.0 j near in grind (arith, member)
      | inr far ↦ grind (arith, far)
    ]) (λ j m. elim (or_cases (x j) (rest j) m) [
      | inl near ↦ most_in j (between.1 j near)
      | inr far ↦ rest_in j far
    ]) superkey)

pub none_completed : (n : ℕ) (ds : List Dependency) (scheme rest least most with_most : Attributes) (a : ℕ) → IsSubset with_most scheme → with_most ≡ union (union most rest) (only a)
    → (IsSuperkey n ds scheme with_most → ⊥) → (x : Attributes) → LiesBetween least most x → BecomesSuperkeyBy n ds scheme (union x rest) a → ⊥
none_completed n ds scheme rest least most with_most a inside is none x between becomes =
    none (superkey_more n ds scheme (union (union x rest) (only a)) with_most (λ j m. elim (or_cases (x j) (union rest (only a) j) (grind (arith, m))) [
      | inl near ↦ let member = between.1 j near in grind (arith, same_at is j, member)
      | inr far ↦ grind (arith, same_at is j, far)
    ]) inside becomes.0)
