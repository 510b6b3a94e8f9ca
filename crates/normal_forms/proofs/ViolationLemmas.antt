-- Violations: a scheme on which a form is violated is not in the form, and a violation parts the scheme.
use Rattle.std.proofs.Common.{◌≡◌, ℕ, true, false, List, refl, sym, ◌∙◌, inl, inr, ⊎_elim, arith}
use Rattle.std.proofs.lemmas.Bool.{true≢false, cases_Bool}
use Rattle.std.proofs.lemmas.Bool.Decides.{nat_tests}
use Rattle.std.proofs.lemmas.Slice.Eq.{bytes_eq-Decides}
use Rattle.std.specs.Str.{bytes_eq}
use Rattle.attr_sets.specs.Attributes.{Attributes, below, only, union, IsSubset, IsEmpty}
use Rattle.attr_sets.proofs.AttributesLemmas.{tell_empty, tell_subset, same_at}
use Rattle.dep_model.specs.Tuples.{value_at}
use Rattle.dep_model.specs.Dependencies.{Dependency, fd}
use Rattle.dep_model.specs.Implication.{Implies}
use Rattle.dep_model.specs.OnSchemes.{ImpliedOn}
use Rattle.dep_model.specs.Keys.{IsSuperkey, IsPartOn}
use Rattle.dep_model.proofs.RuleLemmas.{reflexivity_obeyed, fd_union_obeyed, fd_weaker_obeyed}
use Rattle.dep_model.proofs.KeyLemmas.{superkey-from, fd_on-to, fd_on-from}
use Rattle.dep_model.proofs.FormLemmas.{replicated_on}
use Rattle.dep_model.proofs.PartLemmas.{parts_same}
use Rattle.dep_model.specs.declared.form.Form.{Form}
use Rattle.dep_model.specs.declared.form.Form.TheVariants.{Third, Bcnf, Fourth}
use Rattle.normal_forms.specs.Violations.{ViolatesBcnf, ViolatesFourth, Violates}
use Rattle.normal_forms.specs.Chosen.{IsInForm}
use Rattle.normal_forms.specs.Cuts.{IsCut}

-- ---- attributes
-- a set that is not empty has a member
pub nonempty-member : (n : ℕ) (y : Attributes) → IsSubset y (below n) → (IsEmpty y → ⊥) → (k : ℕ) × (y k ≡ true)
nonempty-member n y low not_empty = ⊎_elim (λ one. (one.0, one.2)) (λ nothing. absurd (not_empty nothing)) (tell_empty n y low)

-- what a dependency names lies within its scheme
pub beyond_in : (n : ℕ) (ds : List Dependency) (scheme x : Attributes) (a : ℕ) → ImpliedOn n ds scheme (fd x (only a)) → scheme a ≡ true
beyond_in n ds scheme x a on = on.within.1 a (grind (arith, nat_tests))

-- ---- superkeys
-- what determines a set determines all of a scheme where the scheme has no more than the two
pub superkey_by : (n : ℕ) (ds : List Dependency) (scheme x y : Attributes) → IsSubset x scheme → Implies n ds (fd x y) → IsSubset scheme (union x y) → IsSuperkey n ds scheme x
superkey_by n ds scheme x y x_in implied all =
    superkey-from n ds scheme x x_in (λ r legal.
    fd_weaker_obeyed x (union x y) x scheme r (λ (k : ℕ) m. m) all
    (fd_union_obeyed x x y r (reflexivity_obeyed x x r (λ (k : ℕ) m. m)) (implied r legal)))

-- so where it is no superkey, the scheme has more
pub more_than : (n : ℕ) (ds : List Dependency) (scheme x y : Attributes) → IsSubset scheme (below n) → IsSubset x scheme → Implies n ds (fd x y) → (IsSuperkey n ds scheme x → ⊥)
    → (k : ℕ) × (scheme k ≡ true) × (x k ≡ false) × (y k ≡ false)
more_than n ds scheme x y low x_in implied none =
    ⊎_elim
    (λ one. (one.0, one.2, grind (arith, one.3), grind (arith, one.3)))
    (λ all. absurd (none (superkey_by n ds scheme x y x_in implied all)))
    (tell_subset n scheme (union x y) low)

-- equality of values is decidable, so what is not refuted is implied
fd_stable : (n : ℕ) (ds : List Dependency) (x y : Attributes) → ((Implies n ds (fd x y) → ⊥) → ⊥) → Implies n ds (fd x y)
fd_stable n ds x y stable r legal t u t_in u_in agree k m =
    elim (cases_Bool (bytes_eq (value_at t k) (value_at u k))) [
      | inl same ↦ (bytes_eq-Decides (value_at t k) (value_at u k)).0 same
      | inr differ ↦ absurd (stable (λ implied.
          true≢false (sym ((bytes_eq-Decides (value_at t k) (value_at u k)).1 (implied r legal t u t_in u_in agree k m)) ∙ differ)))
    ]

pub superkey_stable : (n : ℕ) (ds : List Dependency) (scheme x : Attributes) → IsSubset x scheme → ((IsSuperkey n ds scheme x → ⊥) → ⊥) → IsSuperkey n ds scheme x
superkey_stable n ds scheme x x_in stable =
    superkey-from n ds scheme x x_in (fd_stable n ds x scheme (λ refuted. stable (λ superkey. refuted (fd_on-to n ds scheme x scheme superkey))))

-- ---- Boyce-Codd form
module _ (n : ℕ) (ds : List Dependency) (scheme x y : Attributes) (low : IsSubset scheme (below n)) (v : ViolatesBcnf n ds scheme x y) where
  bcnf_in : IsSubset y scheme
  bcnf_in k m = beyond_in n ds scheme x k ((v.right k).0 m).0

  pub bcnf_attribute : (a : ℕ) × (y a ≡ true)
  bcnf_attribute = nonempty-member n y (λ k m. low k (bcnf_in k m)) v.not_empty

  pub bcnf_left_in : IsSubset x scheme
  bcnf_left_in = ((v.right bcnf_attribute.0).0 bcnf_attribute.1).0.within.0

  bcnf_implied : Implies n ds (fd x y)
  bcnf_implied r legal t u t_in u_in agree k m = fd_on-to n ds scheme x (only k) ((v.right k).0 m).0 r legal t u t_in u_in agree k (grind (arith, nat_tests))

  bcnf_cut : IsCut n ds scheme x y
  bcnf_cut =
      let a = bcnf_attribute.0 in
      let more = more_than n ds scheme x y low bcnf_left_in bcnf_implied v.no_superkey in
      record {
        implied = replicated_on n ds scheme x y (fd_on-from n ds scheme x y bcnf_left_in bcnf_in bcnf_implied);
        apart = λ k m. ((v.right k).0 m).1;
        not_empty = (a, bcnf_in a bcnf_attribute.1, bcnf_attribute.1);
        rest = (more.0, more.1, grind (arith, more.1, more.2, more.3));
      }

-- ---- fourth form
-- a part has an attribute beyond its left side
pub part_attribute : (n : ℕ) (ds : List Dependency) (scheme x p : Attributes) → IsSubset scheme (below n) → IsPartOn n ds scheme x p → (k : ℕ) × (p k ≡ true)
part_attribute n ds scheme x p low part = nonempty-member n p (λ k m. low k (part.implied.within.1 k m)) part.not_empty

module _ (n : ℕ) (ds : List Dependency) (scheme x y : Attributes) (low : IsSubset scheme (below n)) (v : ViolatesFourth n ds scheme x y) where
  -- an attribute of the other part is not in the first
  pub fourth_rest : (k : ℕ) × (v.other k ≡ true) × (y k ≡ false)
  fourth_rest =
      let k = part_attribute n ds scheme x v.other low v.other_part in
      elim (cases_Bool (y k.0)) [
        | inl both ↦ absurd (v.differ (parts_same n ds scheme x v.other y v.other_part v.part (k.0, k.1, both)))
        | inr out ↦ (k.0, k.1, out)
      ]

  fourth_cut : IsCut n ds scheme x y
  fourth_cut =
      let a = part_attribute n ds scheme x y low v.part in
      let k = fourth_rest in
      let inside = v.other_part.implied.within.1 k.0 k.1 in
      record {
        implied = v.part.implied;
        apart = v.part.outside;
        not_empty = (a.0, v.part.implied.within.1 a.0 a.1, a.1);
        rest = (k.0, inside, grind (arith, inside, k.2, v.other_part.outside k.0 k.1));
      }

pub violation_cut : (n : ℕ) (ds : List Dependency) (form : Form) (scheme x y : Attributes) → IsSubset scheme (below n) → (form ≡ Third → ⊥) → Violates n ds form scheme x y → IsCut n ds scheme x y
violation_cut n ds Third scheme x y low other v = absurd (other refl)
violation_cut n ds Bcnf scheme x y low other v = bcnf_cut n ds scheme x y low v
violation_cut n ds Fourth scheme x y low other v = fourth_cut n ds scheme x y low v

-- ---- none is in the form
cut_not_within : (n : ℕ) (ds : List Dependency) (scheme x y : Attributes) → IsCut n ds scheme x y → IsSubset y x → ⊥
cut_not_within n ds scheme x y cut inside = true≢false (sym (inside cut.not_empty.0 cut.not_empty.2) ∙ cut.apart cut.not_empty.0 cut.not_empty.2)

cut_not_whole : (n : ℕ) (ds : List Dependency) (scheme x y : Attributes) → IsCut n ds scheme x y → union x y ≡ scheme → ⊥
cut_not_whole n ds scheme x y cut same = true≢false (sym (same_at same cut.rest.0 ∙ cut.rest.1) ∙ grind (arith, cut.rest.2))

pub not_in_form : (n : ℕ) (ds : List Dependency) (form : Form) (scheme x y : Attributes) → IsSubset scheme (below n) → Violates n ds form scheme x y → IsInForm n ds form scheme → ⊥
not_in_form n ds Third scheme x y low v third =
    ⊎_elim (λ superkey. v.no_superkey superkey) (λ prime. v.determined.1 prime) (third x v.attribute v.determined.0.0 v.determined.0.1)
not_in_form n ds Bcnf scheme x y low v bcnf =
    let a = bcnf_attribute n ds scheme x y low v in
    v.no_superkey (bcnf x a.0 ((v.right a.0).0 a.1).0 ((v.right a.0).0 a.1).1)
not_in_form n ds Fourth scheme x y low v fourth =
    let cut = fourth_cut n ds scheme x y low v in
    v.no_superkey (fourth x y cut.implied (cut_not_within n ds scheme x y cut) (cut_not_whole n ds scheme x y cut))
