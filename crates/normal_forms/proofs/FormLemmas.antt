-- A scheme is in the form where a search finds nothing, and what it finds first is the chosen violation.
use Rattle.std.proofs.Common.{◌≡◌, ℕ, ◌<◌, ◌⊎◌, false, List, length, get_or, refl, sym, ap, ◌∙◌, inl, inr, ⊎_elim, arith}
use Rattle.std.proofs.lemmas.Bool.{true≢false, cases_Bool, ltb-true, false_from_ne_true}
use Rattle.std.proofs.lemmas.Bool.Decides.{nat_tests}
use Rattle.std.proofs.lemmas.List.{get_or-map}
use Rattle.std.specs.Prelude.{All, Option, Some, None, IsNone, IfSome}
use Rattle.attr_sets.specs.Sets.{attributes}
use Rattle.attr_sets.specs.Attributes.{Attributes, below, only, union, intersection, IsSubset, IsBefore}
use Rattle.attr_sets.proofs.AttributesLemmas.{same_from_within, tell_subset}
use Rattle.dep_model.specs.Dependencies.{Dependency, fd, mvd, functional_part, left_of, IsWithin}
use Rattle.dep_model.specs.declared.dep.Dep.{Dep}
use Rattle.dep_model.specs.Deps.{dependency_of, dependencies_of}
use Rattle.dep_model.specs.OnSchemes.{ImpliedOn}
use Rattle.dep_model.specs.Keys.{IsSuperkey, IsPrime}
use Rattle.dep_model.proofs.KeyLemmas.{superkey_more, fd_on-to, fd_on-from}
use Rattle.fd_closure.proofs.ClosedSets.{closure_set}
use Rattle.dep_basis.specs.Parts.{HasTwoParts}
use Rattle.normal_forms.specs.declared.forms.Breach.{Breach}
use Rattle.dep_model.specs.declared.form.Form.{Form}
use Rattle.dep_model.specs.declared.form.Form.TheVariants.{Third, Bcnf, Fourth}
use Rattle.normal_forms.specs.Violations.{DeterminesBeyond, ViolatesThird, Violates}
use Rattle.normal_forms.specs.Chosen.{IsInForm, IsChosenViolation, IsNoViolation}
use Rattle.normal_forms.specs.Adding.{AddOnlyThemselves}
use Rattle.normal_forms.specs.Breaking.{Breaks, IsEnough, NoneBreaks, IsFirstBreaking}
use Rattle.normal_forms.specs.Primes.{ArePrime}
use Rattle.normal_forms.proofs.ViolationLemmas.{superkey_stable, not_in_form}
use Rattle.normal_forms.proofs.UniqueLemmas.{violates_in}
use Rattle.normal_forms.proofs.BreakLemmas.{breaks_from, superkey_closed, closed_superkey}
use Rattle.normal_forms.proofs.SearchLemmas.{intersection_before}

-- ---- Boyce-Codd and fourth form
-- what is neither within x nor all the rest shows that x has two parts
two_parts_from : (n : ℕ) (ds : List Dependency) (scheme x y : Attributes) → IsSubset scheme (below n) → ImpliedOn n ds scheme (mvd x y) → (IsSubset y x → ⊥) → (union x y ≡ scheme → ⊥) → HasTwoParts n ds scheme x
two_parts_from n ds scheme x y low on not_within not_whole = record {
  rhs = y;
  implied = on;
  not_empty = ⊎_elim
      (λ one. (one.0, grind (arith, on.within.1 one.0 one.2, one.3), one.2))
      (λ inside. absurd (not_within inside))
      (tell_subset n y x (λ k m. low k (on.within.1 k m)));
  rest = ⊎_elim
      (λ one. (one.0, grind (arith, one.2, one.3), grind (arith, one.2, one.3)))
      (λ all. absurd (not_whole (same_from_within (union x y) scheme (λ k m. grind (arith, m, on.within.0 k, on.within.1 k)) all)))
      (tell_subset n scheme (union x y) low);
}

pub form_from : (n : ℕ) (ds : List Dependency) (form : Form) (scheme whole : Attributes) → (form ≡ Third → ⊥) → IsSubset scheme (below n) → IsEnough n ds form scheme whole → NoneBreaks n ds form scheme whole → IsInForm n ds form scheme
form_from n ds Third scheme whole other low enough none = absurd (other refl)
form_from n ds Bcnf scheme whole other low enough none = λ x a on out.
    superkey_stable n ds scheme x on.within.0 (λ refuted. none (intersection x whole) (λ k m. grind (arith, m)) (enough x (refuted, (a, (on, out)))))
form_from n ds Fourth scheme whole other low enough none = λ x y on not_within not_whole.
    superkey_stable n ds scheme x on.within.0
    (λ refuted. none (intersection x whole) (λ k m. grind (arith, m)) (enough x (refuted, two_parts_from n ds scheme x y low on not_within not_whole)))

pub chosen_from : (n : ℕ) (ds : List Dependency) (form : Form) (scheme whole x y : Attributes) → (form ≡ Third → ⊥) → IsSubset scheme (below n) → IsEnough n ds form scheme whole
    → IsFirstBreaking n ds form scheme whole x → Violates n ds form scheme x y → IsChosenViolation n ds form scheme x y
chosen_from n ds form scheme whole x y other low enough found violates = record {
  within = violates_in n ds form scheme x y low violates;
  violates = violates;
  first = λ v w before earlier.
      let v_in = violates_in n ds form scheme v w low earlier in
      found.first (intersection v whole) (λ k m. grind (arith, m)) (intersection_before n whole v x (λ k m. low k (v_in k m)) before) (enough v (breaks_from n ds form scheme v w low other earlier));
}

-- ---- third form
-- x violates third form unless more attributes are prime than are known to be: it is no superkey and
-- determines an attribute beyond it that is not known to be prime
abbrev pub MayViolateThird : ℕ → List Dependency → Attributes → Attributes → Attributes → Type 0
MayViolateThird n ds scheme primes x = (IsSuperkey n ds scheme x → ⊥) × ((a : ℕ) × DeterminesBeyond n ds scheme x a × (primes a ≡ false))

module _ (n : ℕ) (ds : List Dependency) (scheme whole : Attributes) (low : IsSubset scheme (below n)) (added : AddOnlyThemselves n ds scheme whole) where
  -- what x has of the set determines the same beyond it
  may_violate_less : (primes x : Attributes) (a : ℕ) → (IsSuperkey n ds scheme x → ⊥) → DeterminesBeyond n ds scheme x a → primes a ≡ false → MayViolateThird n ds scheme primes (intersection x whole)
  may_violate_less primes x a none determined out =
      let on : ImpliedOn n ds scheme (fd (intersection x whole) (only a)) = fd_on-from n ds scheme (intersection x whole) (only a) (λ k m. determined.0.within.0 k (grind (arith, m))) determined.0.within.1
      (added x a determined.0.within.0 (ltb-true a n (low a (determined.0.within.1 a (grind (arith, nat_tests)))), fd_on-to n ds scheme x (only a) determined.0) determined.1).1 in (
        (λ superkey. none (superkey_more n ds scheme (intersection x whole) x (λ k m. grind (arith, m)) determined.0.within.0 superkey)),
        (a, (on, grind (arith, determined.1)), out),
      )

  pub third_from : (primes : Attributes) → All (IsWithin (below n)) ds → functional_part ds ≡ ds → ArePrime n ds scheme primes → ((x : Attributes) → IsSubset x whole → MayViolateThird n ds scheme primes x → ⊥)
      → (x : Attributes) (a : ℕ) → ImpliedOn n ds scheme (fd x (only a)) → x a ≡ false → IsSuperkey n ds scheme x ⊎ IsPrime n ds scheme a
  third_from primes within same are_prime none x a on out =
      let c = closure_set n ds x within same (λ k m. low k (on.within.0 k m)) in
      elim (cases_Bool (primes a)) [
        | inl known ↦ inr (are_prime a known)
        | inr unknown ↦ ⊎_elim
            (λ beyond. absurd (none (intersection x whole) (λ k m. grind (arith, m)) (may_violate_less primes x a
            (λ superkey. true≢false (sym (superkey_closed n ds scheme x c.0 low c.1.exact superkey beyond.0 beyond.2) ∙ beyond.3)) (on, out) unknown)))
            (λ all. inl (closed_superkey n ds scheme x c.0 on.within.0 c.1.exact all))
            (tell_subset n scheme c.0 low)
      ]

  -- no set before x violates the form
  pub third_first : (primes x v w : Attributes) → ArePrime n ds scheme primes → ((y : Attributes) → IsSubset y whole → IsBefore y x → MayViolateThird n ds scheme primes y → ⊥)
      → IsBefore v x → ViolatesThird n ds scheme v w → ⊥
  third_first primes x v w are_prime none before violates =
      let v_in = violates.determined.0.0.within.0 in
      none (intersection v whole) (λ k m. grind (arith, m)) (intersection_before n whole v x (λ k m. low k (v_in k m)) before)
      (may_violate_less primes v violates.attribute violates.no_superkey violates.determined.0
      (false_from_ne_true (primes violates.attribute) (λ known. violates.determined.1 (are_prime violates.attribute known))))

-- ---- what is found
-- nothing is found where the scheme is in the form
pub none_in_form : (n : ℕ) (ds : List Dependency) (form : Form) (scheme : Attributes) (found : Option Breach) → IsSubset scheme (below n)
    → IfSome found (λ breach. IsChosenViolation n ds form scheme (attributes breach.lhs) (attributes breach.rhs)) → IsInForm n ds form scheme → IsNone found
none_in_form n ds form scheme None low chosen formed = refl
none_in_form n ds form scheme (Some breach) low chosen formed = absurd (not_in_form n ds form scheme (attributes breach.lhs) (attributes breach.rhs) low chosen.violates formed)

-- ---- given left sides
-- the left side of a given dependency
pub given_left : (ds : List Dep) (i : ℕ) (d : Dep) (x : Attributes) → i < length ds → x ≡ left_of (dependency_of (get_or ds i d)) → left_of (get_or (dependencies_of ds) i (dependency_of d)) ≡ x
given_left ds i d x short is = ap left_of (get_or-map dependency_of ds i d (dependency_of d) short) ∙ sym is

-- it is no violation where it does not lie within the scheme, or breaks nothing
pub no_violation_outside : (n : ℕ) (ds : List Dependency) (form : Form) (scheme : Attributes) (d : Dependency) → IsSubset scheme (below n) → (IsSubset (left_of d) scheme → ⊥) → IsNoViolation n ds form scheme d
no_violation_outside n ds form scheme d low out y violates = out (violates_in n ds form scheme (left_of d) y low violates)

pub no_violation_whole : (n : ℕ) (ds : List Dependency) (form : Form) (scheme : Attributes) (d : Dependency) → IsSubset scheme (below n) → (form ≡ Third → ⊥) → (Breaks n ds form scheme (left_of d) → ⊥) → IsNoViolation n ds form scheme d
no_violation_whole n ds form scheme d low other none y violates = none (breaks_from n ds form scheme (left_of d) y low other violates)
