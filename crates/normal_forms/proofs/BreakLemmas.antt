-- Left sides that violate Boyce-Codd or fourth form, whatever their right sides.
use Rattle.std.proofs.Common.{◌≡◌, ℕ, ◌≤◌, ◌↔◌, ◌⊎◌, Bool, true, false, not, List, refl, sym, subst, ◌∙◌, inl, inr, ⊎_elim, arith}
use mathlib.Core.Path.{fun_ext}
use Rattle.std.proofs.lemmas.Bool.{true≢false, false≢true, cases_Bool, ltb-true, lt-ltb}
use Rattle.std.proofs.lemmas.Bool.Decides.{nat_tests}
use Rattle.std.specs.Prelude.{All, IsTrue}
use Rattle.attr_sets.specs.Attributes.{Attributes, below, only, intersection, difference, IsSubset, IsFirstFrom}
use Rattle.attr_sets.proofs.AttributesLemmas.{tell_subset, same_at}
use Rattle.dep_model.specs.declared.dep.Dep.{Dep}
use Rattle.dep_model.specs.Dependencies.{Dependency, ObeysMvd, functional_part, left_of, IsWithin}
use Rattle.dep_model.specs.Deps.{dependency_of, dependencies_of, IsDepWithin}
use Rattle.dep_model.specs.Keys.{IsSuperkey, InClosure, IsPartOn}
use Rattle.dep_model.specs.TwoTuples.{two_tuples}
use Rattle.dep_model.proofs.RuleLemmas.{fd_weaker_obeyed}
use Rattle.dep_model.proofs.SchemeLemmas.{mvd_in-to}
use Rattle.dep_model.proofs.KeyLemmas.{superkey-from, superkey_more, fd_on-to}
use Rattle.dep_model.proofs.FormLemmas.{replicated_on}
use Rattle.fd_closure.proofs.ClosedSets.{IsClosure, closure_set}
use Rattle.dep_basis.specs.Parts.{HasTwoParts}
use Rattle.dep_basis.specs.Bases.{IsSplitBy}
use Rattle.dep_basis.proofs.BlockLemmas.{outside_of}
use Rattle.dep_basis.proofs.BasisLemmas.{split_broken}
use Rattle.dep_basis.proofs.PartLemmas.{parts_two}
use Rattle.dep_model.specs.declared.form.Form.{Form}
use Rattle.dep_model.specs.declared.form.Form.TheVariants.{Third, Bcnf, Fourth}
use Rattle.normal_forms.specs.Violations.{DeterminesBeyond, ViolatesBcnf, ViolatesFourth, Violates}
use Rattle.normal_forms.specs.Adding.{AddOnlyThemselves}
use Rattle.normal_forms.specs.Breaking.{Breaks, IsEnough}
use Rattle.normal_forms.proofs.ViolationLemmas.{beyond_in, bcnf_attribute, more_than, fourth_rest}
use Rattle.normal_forms.proofs.AddedLemmas.{added_by_all}
use Rattle.normal_forms.proofs.PartLemmas.{only_on, other_part, two_parts_less}

-- ---- what is violated is broken
pub breaks_from : (n : ℕ) (ds : List Dependency) (form : Form) (scheme x y : Attributes) → IsSubset scheme (below n) → (form ≡ Third → ⊥) → Violates n ds form scheme x y → Breaks n ds form scheme x
breaks_from n ds Third scheme x y low other v = absurd (other refl)
breaks_from n ds Bcnf scheme x y low other v =
    let a = bcnf_attribute n ds scheme x y low v in
    (v.no_superkey, (a.0, (v.right a.0).0 a.1))
breaks_from n ds Fourth scheme x y low other v =
    let k = fourth_rest n ds scheme x y low v in
    (v.no_superkey, parts_two n ds scheme x y v.other low v.part v.other_part (λ inside. true≢false (sym (inside k.0 k.1) ∙ k.2)))

-- ---- Boyce-Codd form and fourth form
-- what determines some of the rest, and not all, has two parts
pub bcnf_two : (n : ℕ) (ds : List Dependency) (scheme x : Attributes) → IsSubset scheme (below n) → Breaks n ds Bcnf scheme x → HasTwoParts n ds scheme x
bcnf_two n ds scheme x low b =
    let a = b.1.0 in
    let on = b.1.1.0 in
    let out = b.1.1.1 in
    let a_in : scheme a ≡ true = on.within.1 a (grind (arith, nat_tests)) in
    let more = more_than n ds scheme x (only a) low on.within.0 (fd_on-to n ds scheme x (only a) on) b.0 in
    record {
      rhs = only a;
      implied = replicated_on n ds scheme x (only a) on;
      not_empty = (a, grind (arith, a_in, out), grind (arith, nat_tests));
      rest = (more.0, grind (arith, more.1, more.2), grind (arith, more.1, more.3));
    }

-- by functional dependencies alone, what has two parts determines some of the rest
module _ (n : ℕ) (ds : List Dependency) (scheme x : Attributes) (low : IsSubset scheme (below n)) (two : HasTwoParts n ds scheme x) (c : Attributes) (closure : IsClosure n ds x c) where
  x_in : IsSubset x scheme
  x_in = two.implied.within.0

  c_low : (k : ℕ) → c k ≡ true → below n k ≡ true
  c_low k m = lt-ltb k n ((closure.exact k).0 m).0

  outside_is : outside_of n (outside_of n c) ≡ c
  outside_is = fun_ext (λ k. elim (cases_Bool (c k)) [
    | inl m ↦ let l = c_low k m in grind (arith, m, l)
    | inr m ↦ grind (arith, m)
  ])

  pub closed_at : (a : ℕ) → difference scheme x a ≡ true → c a ≡ true → DeterminesBeyond n ds scheme x a
  closed_at a m in_c = (only_on n ds scheme x a x_in (grind (arith, m)) ((closure.exact a).0 in_c), grind (arith, m))

  pub some_determined : (a : ℕ) × DeterminesBeyond n ds scheme x a
  some_determined =
      let a = two.not_empty.0 in
      let b = two.rest.0 in
      elim (cases_Bool (c a)) [
        | inl in_c ↦ (a, closed_at a two.not_empty.1 in_c)
        | inr a_out ↦ elim (cases_Bool (c b)) [
          | inl in_c ↦ (b, closed_at b two.rest.1 in_c)
          | inr b_out ↦
              let y = two.rhs in
              let y_in = two.implied.within.1 in
              let a_low = low a (grind (arith, two.not_empty.1)) in
              let b_low = low b (grind (arith, two.rest.1)) in
              let split : IsSplitBy scheme y (intersection (outside_of n c) scheme) = (
                (a, grind (arith, two.not_empty.1, a_out, a_low), two.not_empty.2),
                (b, grind (arith, two.rest.1, b_out, b_low), two.rest.2),
              ) in
              let obeyed = mvd_in-to scheme x y (two_tuples n c) x_in y_in (two.implied.obeyed (two_tuples n c) closure.legal) in
              absurd (split_broken n scheme x y (outside_of n c) low x_in y_in
              (λ k m. elim (cases_Bool (x k)) [
                | inl in_x ↦ absurd (true≢false (sym (closure.holds k in_x) ∙ grind (arith, m)))
                | inr out ↦ out
              ])
              split (subst (λ (v : Attributes). ObeysMvd scheme x y (two_tuples n v)) (sym outside_is) obeyed))
        ]
      ]

pub fourth_is_bcnf : (n : ℕ) (ds : List Dependency) (scheme x : Attributes) → All (IsWithin (below n)) ds → functional_part ds ≡ ds → IsSubset scheme (below n)
    → Breaks n ds Fourth scheme x → Breaks n ds Bcnf scheme x
fourth_is_bcnf n ds scheme x within same low b =
    let c = closure_set n ds x within same (λ k m. low k (b.1.implied.within.0 k m)) in
    (b.0, some_determined n ds scheme x low b.1 c.0 c.1)

-- ---- what is enough
no_superkey_less : (n : ℕ) (ds : List Dependency) (scheme whole x : Attributes) → IsSubset x scheme → (IsSuperkey n ds scheme x → ⊥) → IsSuperkey n ds scheme (intersection x whole) → ⊥
no_superkey_less n ds scheme whole x x_in none superkey = none (superkey_more n ds scheme (intersection x whole) x (λ k m. grind (arith, m)) x_in superkey)

pub bcnf_enough : (n : ℕ) (ds : List Dependency) (scheme whole : Attributes) → IsSubset scheme (below n) → AddOnlyThemselves n ds scheme whole → IsEnough n ds Bcnf scheme whole
bcnf_enough n ds scheme whole low added x b =
    let a = b.1.0 in
    let on = b.1.1.0 in
    let out = b.1.1.1 in
    let x_in = on.within.0 in
    let a_in : scheme a ≡ true = on.within.1 a (grind (arith, nat_tests)) in
    let closed = added x a x_in (ltb-true a n (low a a_in), fd_on-to n ds scheme x (only a) on) out in (
      no_superkey_less n ds scheme whole x x_in b.0,
      (a, (only_on n ds scheme (intersection x whole) a (λ k m. x_in k (grind (arith, m))) a_in closed, grind (arith, out))),
    )

pub fourth_enough : (n : ℕ) (ds : List Dep) (scheme l whole : Attributes) → n ≤ 128 → All (IsDepWithin (below n)) ds → IsSubset scheme (below n)
    → All (λ d. IsSubset (left_of (dependency_of d)) l) ds → whole ≡ intersection l scheme → IsEnough n (dependencies_of ds) Fourth scheme whole
fourth_enough n ds scheme l whole within_limit within low lefts is x b =
    let x_in = b.1.implied.within.0 in
    let same : intersection x l ≡ intersection x whole = fun_ext (λ k. grind (arith, same_at is k, x_in k)) in (
      no_superkey_less n (dependencies_of ds) scheme whole x x_in b.0,
      subst (λ (v : Attributes). HasTwoParts n (dependencies_of ds) scheme v) same
          (two_parts_less n ds scheme l x within_limit within low x_in lefts b.1),
    )

pub all_enough : (n : ℕ) (ds : List Dep) (form : Form) (scheme l whole : Attributes) → (form ≡ Third → ⊥) → n ≤ 128 → All (IsDepWithin (below n)) ds → IsSubset scheme (below n)
    → All (λ d. IsSubset (left_of (dependency_of d)) l) ds → whole ≡ intersection l scheme → IsEnough n (dependencies_of ds) form scheme whole
all_enough n ds Third scheme l whole other within_limit within low lefts is = λ x b. absurd (other refl)
all_enough n ds Bcnf scheme l whole other within_limit within low lefts is = bcnf_enough n (dependencies_of ds) scheme whole low (added_by_all n ds scheme l whole within_limit within low lefts is)
all_enough n ds Fourth scheme l whole other within_limit within low lefts is = fourth_enough n ds scheme l whole within_limit within low lefts is

pub functional_enough : (n : ℕ) (ds : List Dependency) (form : Form) (scheme whole : Attributes) → (form ≡ Third → ⊥) → All (IsWithin (below n)) ds → functional_part ds ≡ ds → IsSubset scheme (below n)
    → AddOnlyThemselves n ds scheme whole → IsEnough n ds form scheme whole
functional_enough n ds Third scheme whole other within same low added x b = absurd (other refl)
functional_enough n ds Bcnf scheme whole other within same low added x b = bcnf_enough n ds scheme whole low added x b
functional_enough n ds Fourth scheme whole other within same low added x b =
    let less = bcnf_enough n ds scheme whole low added x (fourth_is_bcnf n ds scheme x within same low b) in
    (less.0, bcnf_two n ds scheme (intersection x whole) low less)

-- ---- right sides
pub bcnf_violated : (n : ℕ) (ds : List Dependency) (scheme x y : Attributes) → Breaks n ds Bcnf scheme x → ((a : ℕ) → (y a ≡ true) ↔ DeterminesBeyond n ds scheme x a) → ViolatesBcnf n ds scheme x y
bcnf_violated n ds scheme x y b right = record {
  no_superkey = b.0;
  not_empty = λ nothing. true≢false (sym ((right b.1.0).1 b.1.1) ∙ nothing b.1.0);
  right = right;
}

pub fourth_violated : (n : ℕ) (ds : List Dep) (scheme x y : Attributes) → n ≤ 128 → All (IsDepWithin (below n)) ds → IsSubset scheme (below n) → Breaks n (dependencies_of ds) Fourth scheme x
    → IsPartOn n (dependencies_of ds) scheme x y → ((a : ℕ) → IsFirstFrom (difference scheme x) 0 a → y a ≡ true) → ViolatesFourth n (dependencies_of ds) scheme x y
fourth_violated n ds scheme x y within_limit within low b part first =
    let other = other_part n ds scheme x within low b.1.implied.within.0 within_limit y part b.1 in
    record { no_superkey = b.0; part = part; first = first; other = other.0; other_part = other.1; differ = other.2 }

-- ---- what the code says
-- a test that is turned round
pub IsTrue-not : (r : Bool) (W B : Type 0) → IsTrue r ↔ W → (W → B → ⊥) → ((W → ⊥) → B) → IsTrue (not r) ↔ B
IsTrue-not true W B says never makes = ((λ e. absurd (false≢true e)), (λ b. absurd (never (says.0 refl) b)))
IsTrue-not false W B says never makes = ((λ _. makes (λ w. false≢true (says.1 w))), (λ _. refl))

-- a scheme lies within what a superkey determines
pub superkey_closed : (n : ℕ) (ds : List Dependency) (scheme x c : Attributes) → IsSubset scheme (below n) → ((a : ℕ) → (c a ≡ true) ↔ InClosure n ds x a) → IsSuperkey n ds scheme x → IsSubset scheme c
superkey_closed n ds scheme x c low exact superkey a m =
    (exact a).1 (ltb-true a n (low a m), λ r legal. fd_weaker_obeyed x scheme x (only a) r (λ (k : ℕ) h. h) (λ (k : ℕ) e. grind (arith, nat_tests, e, m)) (fd_on-to n ds scheme x scheme superkey r legal))

pub closed_superkey : (n : ℕ) (ds : List Dependency) (scheme x c : Attributes) → IsSubset x scheme → ((a : ℕ) → (c a ≡ true) ↔ InClosure n ds x a) → IsSubset scheme c → IsSuperkey n ds scheme x
closed_superkey n ds scheme x c x_in exact all =
    superkey-from n ds scheme x x_in (λ r legal t u t_in u_in agree k m. ((exact k).0 (all k m)).1 r legal t u t_in u_in agree k (grind (arith, nat_tests)))

-- of the scheme, the closed set of x has more than x, and not all
module _ (n : ℕ) (ds : List Dependency) (scheme x c : Attributes) (low : IsSubset scheme (below n)) (x_in : IsSubset x scheme) (exact : (a : ℕ) → (c a ≡ true) ↔ InClosure n ds x a) where
  pub whole_breaks_not : IsSubset scheme c → Breaks n ds Bcnf scheme x → ⊥
  whole_breaks_not all b = b.0 (closed_superkey n ds scheme x c x_in exact all)

  pub itself_breaks_not : (found : Attributes) → found ≡ intersection c scheme → IsSubset found x → Breaks n ds Bcnf scheme x → ⊥
  itself_breaks_not found is all b =
      let a = b.1.0 in
      let a_in = beyond_in n ds scheme x a b.1.1.0 in
      let closed = (exact a).1 (ltb-true a n (low a a_in), fd_on-to n ds scheme x (only a) b.1.1.0) in
      true≢false (sym (all a (same_at is a ∙ grind (arith, a_in, closed))) ∙ b.1.1.1)

  pub part_breaks : (found : Attributes) → found ≡ intersection c scheme → (IsSubset scheme c → ⊥) → (IsSubset found x → ⊥) → Breaks n ds Bcnf scheme x
  part_breaks found is not_whole not_itself = (
    (λ superkey. not_whole (superkey_closed n ds scheme x c low exact superkey)),
    ⊎_elim
        (λ one.
        let both : intersection c scheme one.0 ≡ true = sym (same_at is one.0) ∙ one.2 in
        (one.0, (only_on n ds scheme x one.0 x_in (grind (arith, both)) ((exact one.0).0 (grind (arith, both))), one.3)))
        (λ all. absurd (not_itself all))
        (tell_subset n found x (λ k m. low k (grind (arith, same_at is k, m)))),
  )

-- what violates a form has two parts
pub breaks_two : (n : ℕ) (ds : List Dependency) (form : Form) (scheme x : Attributes) → (form ≡ Third → ⊥) → IsSubset scheme (below n) → Breaks n ds form scheme x → HasTwoParts n ds scheme x
breaks_two n ds Third scheme x other low b = absurd (other refl)
breaks_two n ds Bcnf scheme x other low b = bcnf_two n ds scheme x low b
breaks_two n ds Fourth scheme x other low b = b.1

-- by functional dependencies alone the two forms are one
pub functional_breaks : (n : ℕ) (ds : List Dependency) (form : Form) (scheme x : Attributes) → (form ≡ Third → ⊥) → All (IsWithin (below n)) ds → functional_part ds ≡ ds → IsSubset scheme (below n)
    → Breaks n ds Bcnf scheme x ↔ Breaks n ds form scheme x
functional_breaks n ds Third scheme x other within same low = absurd (other refl)
functional_breaks n ds Bcnf scheme x other within same low = ((λ b. b), (λ b. b))
functional_breaks n ds Fourth scheme x other within same low = ((λ b. (b.0, bcnf_two n ds scheme x low b)), fourth_is_bcnf n ds scheme x within same low)

-- what x determines beyond itself is what its closed set has of the scheme beyond it
pub right_side_at : (n : ℕ) (ds : List Dependency) (scheme x c found y : Attributes) → IsSubset scheme (below n) → IsSubset x scheme → ((a : ℕ) → (c a ≡ true) ↔ InClosure n ds x a)
    → found ≡ intersection c scheme → y ≡ difference found x → (a : ℕ) → (y a ≡ true) ↔ DeterminesBeyond n ds scheme x a
right_side_at n ds scheme x c found y low x_in exact found_is y_is a = (
  (λ m.
      let both : difference found x a ≡ true = sym (same_at y_is a) ∙ m in
      (only_on n ds scheme x a x_in (grind (arith, both, same_at found_is a)) ((exact a).0 (grind (arith, both, same_at found_is a))), grind (arith, both))),
  (λ h.
      let a_in = beyond_in n ds scheme x a h.0 in
      let closed = (exact a).1 (ltb-true a n (low a a_in), fd_on-to n ds scheme x (only a) h.0) in
      grind (arith, same_at y_is a, same_at found_is a, a_in, closed, h.1)),
)

-- where the form is neither third nor fourth
pub is_bcnf : (form : Form) → (form ≡ Third → ⊥) → (form ≡ Third) ⊎ (form ≡ Bcnf) → form ≡ Bcnf
is_bcnf form other one = ⊎_elim (λ third. absurd (other third)) (λ bcnf. bcnf) one
