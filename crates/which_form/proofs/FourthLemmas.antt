-- Where all dependencies are functional, a left side violates fourth form where it violates Boyce-Codd form.
use Rattle.std.proofs.Common.{◌≡◌, ◌≤◌, ◌∙◌, ℕ, true, List, refl, subst, sym, arith}
use mathlib.Core.Path.{fun_ext}
use Rattle.std.proofs.lemmas.Bool.{true≢false}
use Rattle.std.specs.Prelude.{All}
use Rattle.attr_sets.specs.Attributes.{Attributes, below, difference, intersection, IsSubset, IsFirstFrom, IsEmpty}
use Rattle.dep_model.specs.declared.dep.Dep.{Dep}
use Rattle.dep_model.specs.Dependencies.{Dependency, functional_part, IsWithin}
use Rattle.dep_model.specs.Deps.{dependencies_of, IsDepWithin}
use Rattle.dep_model.specs.Forms.{IsBcnf, IsFourth}
use Rattle.dep_model.specs.Keys.{IsPartOn}
use Rattle.dep_model.specs.declared.form.Form.TheVariants.{Bcnf, Fourth}
use Rattle.dep_model.proofs.DepLemmas.{dependencies_all-from}
use Rattle.fd_closure.proofs.ClosedSets.{closure_set}
use Rattle.normal_forms.specs.Breaking.{Breaks, IsEnough}
use Rattle.normal_forms.specs.Chosen.{IsChosenViolation}
use Rattle.normal_forms.specs.Violations.{ViolatesBcnf}
use Rattle.normal_forms.proofs.BreakLemmas.{bcnf_violated, breaks_from, fourth_is_bcnf, fourth_violated, functional_breaks, right_side_at}
use Rattle.normal_forms.proofs.FormLemmas.{form_from}

-- what is in a scheme stays as it is where it is cut down to it
whole_enough : (n : ℕ) (ds : List Dependency) (scheme : Attributes) → IsEnough n ds Fourth scheme scheme
whole_enough n ds scheme x breaks =
    let x_in = breaks.1.implied.within.0 in
    let same : x ≡ intersection x scheme = fun_ext (λ k. grind (arith, x_in k)) in
    subst (λ (v : Attributes). Breaks n ds Fourth scheme v) same breaks

module _ (n : ℕ) (deps : List Dep) (scheme : Attributes) (within_limit : n ≤ 128) (within : All (IsDepWithin (below n)) deps)
    (functional : functional_part (dependencies_of deps) ≡ dependencies_of deps) (low : IsSubset scheme (below n)) where
  abbrev ds : List Dependency
  ds = dependencies_of deps

  all_within : All (IsWithin (below n)) ds
  all_within = dependencies_all-from (IsWithin (below n)) deps within

  -- Boyce-Codd form gives fourth form
  pub bcnf_fourth : IsBcnf n ds scheme → IsFourth n ds scheme
  bcnf_fourth bcnf =
      form_from n ds Fourth scheme scheme (λ same. cc) low (whole_enough n ds scheme)
      (λ x x_in breaks.
      let broken = fourth_is_bcnf n ds scheme x all_within functional low breaks in
      broken.0 (bcnf x broken.1.0 broken.1.1.0 broken.1.1.1))

  -- what breaks Boyce-Codd form violates it, with some right side
  right_side : (x : Attributes) → Breaks n ds Bcnf scheme x → (y : Attributes) × ViolatesBcnf n ds scheme x y
  right_side x broken =
      let x_in = broken.1.1.0.within.0 in
      let c = closure_set n ds x all_within functional (λ k m. low k (x_in k m)) in
      let y : Attributes = difference (intersection c.0 scheme) x in
      (y, bcnf_violated n ds scheme x y broken (right_side_at n ds scheme x c.0 (intersection c.0 scheme) y low x_in c.1.exact refl refl))

  -- the violation of fourth form that is chosen
  pub chosen_fourth : (x y z : Attributes) → IsChosenViolation n ds Bcnf scheme x y
      → ((a : ℕ) → IsFirstFrom (difference scheme x) 0 a → z a ≡ true)
      → ((IsEmpty (difference scheme x) → ⊥) → IsPartOn n ds scheme x z) → IsChosenViolation n ds Fourth scheme x z
  chosen_fourth x y z chosen first part =
      let broken = (functional_breaks n ds Fourth scheme x (λ same. cc) all_within functional low).0
      (breaks_from n ds Bcnf scheme x y low (λ same. cc) chosen.violates) in
      let beyond = broken.1.not_empty in
      record {
        within = chosen.within;
        violates = fourth_violated n deps scheme x z within_limit within low broken (part (λ nothing. true≢false (sym beyond.1 ∙ nothing beyond.0))) first;
        first = λ v w before violates.
            let earlier = right_side v (fourth_is_bcnf n ds scheme v all_within functional low (breaks_from n ds Fourth scheme v w low (λ same. cc) violates)) in
            chosen.first v earlier.0 before earlier.1;
      }
