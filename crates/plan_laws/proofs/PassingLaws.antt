-- Plans whose schemes are in a form pass the test of that form, in third form that of second too, and lossless
-- plans that of their join.
use Rattle.std.proofs.Common.{◌≡◌, ◌≤◌, ◌++◌, ◌∙◌, ℕ, List, [], ◌∷◌, length, get_or, refl, sym, ap, subst, inl, inr, arith}
use Rattle.std.specs.Prelude.{All, Contains}
use Rattle.std.proofs.lemmas.List.{length-map}
use Rattle.std.proofs.lemmas.Bool.{cases_Bool}
use Rattle.std.proofs.lemmas.List.Elements.{All-cons, All-head, All-tail, All-weaker, All-contains}
use Rattle.attr_sets.specs.Attributes.{Attributes, below, IsSubset}
use Rattle.attr_sets.specs.Sets.{attributes}
use Rattle.attr_sets.specs.declared.set.AttrSet.{AttrSet}
use Rattle.chase_laws.proofs.RoundLemmas.{functional_within_limit}
use Rattle.dep_model.specs.Dependencies.{Dependency, mvd}
use Rattle.dep_model.specs.Plans.{schemes_of}
use Rattle.schema_model.specs.Schemas.{width_of, theory_of, theory_in}
use Rattle.schema_model.specs.Schemas.{Schema}
use Rattle.dep_model.proofs.FormLemmas.{fourth_bcnf}
use Rattle.dep_model.proofs.ListLemmas.{Any-from}
use Rattle.implication_laws.proofs.OnePlanAnswer.{failing_in_plan}
use Rattle.fd_closure.specs.LeftSides.{IsWideScheme}
use Rattle.dep_model.specs.Forms.{IsThird}
use Rattle.normal_forms.specs.Chosen.{IsInForm}
use Rattle.normal_forms.specs.Violations.{Violates}
use Rattle.dep_model.specs.declared.form.Form.{Form}
use Rattle.dep_model.specs.declared.form.Form.TheVariants.{Third, Bcnf, Fourth}
use Rattle.normal_forms.proofs.ViolationLemmas.{not_in_form}
use Rattle.which_form.specs.declared.forms.TestedForm.{TestedForm}
use Rattle.which_form.specs.declared.forms.TestedForm.TheVariants.{Second, Higher}
use Rattle.which_form.specs.SecondForm.{IsSecond}
use Rattle.which_form.specs.Tested.{IsInTested, IsNamedViolation}
use Rattle.which_form.proofs.SecondLemmas.{third_second, violates_not_second}
use Rattle.plans.specs.Containing.{is_contained, without_contained_after, without_contained}
use Rattle.split_forms.specs.Splitting.{StaysWhole}
use Rattle.split_forms.proofs.WalkLemmas.{reached_plan}
use Rattle.wide_bcnf.proofs.SplitLemmas.{schema_parts}
use Rattle.desk_responses.specs.declared.status.Status.TheVariants.{Yes, No}
use Rattle.desk_responses.specs.ResponseValues.{ResponseValue, Says}
use Rattle.desk_designs.specs.declared.join.TheConstants.{MOST_TABLEAU_ROWS}
use Rattle.desk_designs.specs.Decompositions.{IsPlanInForm, IsSplitInForm, IsWideSplit}
use Rattle.desk_designs.specs.Joins.{IsTooLarge, LosesNothing}
use Rattle.desk_designs.specs.NormalForms.{JudgesForm, PassesForm, in_form_text, violated_text}
use Rattle.desk_designs.specs.Synthesis.{IsThirdFormPlan}
use Rattle.desk_responses.specs.Lines.{too_wide_text}
use Rattle.schema_printer.specs.Spelling.{printed_names_of}
use Rattle.desk_designs.proofs.StatusLemmas.{refused_not_yes}
use Rattle.plan_laws.specs.Passing.{PassesCheckForm, PassesCheckJoin, PassesCheckKeeps}

-- ---- schemes in a form
-- a violation of third form is found in any scheme, of another form in a scheme of the universe
not_violated : (n : ℕ) (ds : List Dependency) (form : Form) (scheme x y : Attributes)
    → ((form ≡ Third → ⊥) → IsSubset scheme (below n)) → IsInForm n ds form scheme → Violates n ds form scheme x y → ⊥
not_violated n ds Third scheme x y low formed violates =
    elim (formed x violates.attribute violates.determined.0.0 violates.determined.0.1) [
      | inl superkey ↦ violates.no_superkey superkey
      | inr prime ↦ violates.determined.1 prime
    ]
not_violated n ds Bcnf scheme x y low formed violates =
    not_in_form n ds Bcnf scheme x y (low (λ same. cc)) violates formed
not_violated n ds Fourth scheme x y low formed violates =
    not_in_form n ds Fourth scheme x y (low (λ same. cc)) violates formed

-- where no violation is named of a scheme of a plan that is in the form
passes_by : (s : Schema) (form : TestedForm) (plan : List Attributes)
    → ((scheme x y : Attributes) → Contains plan scheme → IsInTested (width_of s) (theory_of s) form scheme
    → IsNamedViolation (width_of s) (theory_of s) form scheme x y → ⊥)
    → All (IsInTested (width_of s) (theory_of s) form) plan → PassesCheckForm s form plan
passes_by s form plan none formed response (inl passed) = inl passed.1
passes_by s form plan none formed response (inr (scheme, first, inl (wide, says))) =
    inr (
      Any-from (IsWideScheme (theory_of s)) plan scheme (failing_in_plan (PassesForm s form) plan scheme first) wide,
      ap (λ (r : ResponseValue). r.status) says,
    )
passes_by s form plan none formed response (inr (scheme, first, inr (narrow, found))) =
    let within = failing_in_plan (PassesForm s form) plan scheme first in
    absurd (none scheme found.0 found.1 within
    (All-contains (IsInTested (width_of s) (theory_of s) form) plan scheme formed within) found.2)

pub form_passes : (s : Schema) (form : Form) (plan : List Attributes)
    → ((form ≡ Third → ⊥) → All (λ scheme. IsSubset scheme (below (width_of s))) plan)
    → All (IsInForm (width_of s) (theory_of s) form) plan → PassesCheckForm s (Higher form) plan
form_passes s form plan low formed =
    passes_by s (Higher form) plan (λ scheme x y within is named.
    not_violated (width_of s) (theory_of s) form scheme x y
    (λ other. All-contains (λ (z : Attributes). IsSubset z (below (width_of s))) plan scheme (low other) within) is named.violates)
    formed

-- plans in third form are in second
pub second_passes : (s : Schema) (plan : List Attributes) → All (IsThird (width_of s) (theory_of s)) plan
    → PassesCheckForm s Second plan
second_passes s plan third =
    passes_by s Second plan
    (λ scheme x y within is named. violates_not_second (width_of s) (theory_of s) scheme x y named.violates is)
    (All-weaker (IsThird (width_of s) (theory_of s)) (IsSecond (width_of s) (theory_of s))
    (third_second (width_of s) (theory_of s)) plan third)

no_not_yes : (text : List ℕ) (response : ResponseValue) → Says No text response → response.status ≡ Yes → ⊥
no_not_yes text response says agrees =
    let is : No ≡ Yes = sym (ap (λ (r : ResponseValue). r.status) says) ∙ agrees in
    cc

pub third_is_second : (s : Schema) (plan : List Attributes) (third second : ResponseValue)
    → JudgesForm s (Higher Third) plan third → third.status ≡ Yes → JudgesForm s Second plan second
    → Says Yes (in_form_text Second) second
third_is_second s plan third second (inl passed) agrees (inl (all, says)) = says
third_is_second s plan third second (inl passed) agrees (inr (scheme, first, ends)) =
    let within = failing_in_plan (PassesForm s Second) plan scheme first in
    let passes = All-contains (PassesForm s (Higher Third)) plan scheme passed.0 within in
    absurd (elim ends [
      | inl wide ↦ passes.narrow wide.0
      | inr found ↦ violates_not_second (width_of s) (theory_of s) scheme found.1.0 found.1.1 found.1.2.violates
          (third_second (width_of s) (theory_of s) scheme passes.in_form)
    ])
third_is_second s plan third second (inr (scheme, first, inl (wide, says))) agrees judged =
    absurd (refused_not_yes (too_wide_text (printed_names_of s) scheme) third says agrees)
third_is_second s plan third second (inr (scheme, first, inr (narrow, found))) agrees judged =
    absurd (no_not_yes (violated_text (printed_names_of s) (Higher Third) scheme found.0 found.1) third found.3 agrees)

pub join_passes : (s : Schema) (plan : List Attributes) → LosesNothing s plan → PassesCheckJoin s plan
join_passes s plan lossless response (inl (inl (fits, lossy, found))) = absurd (lossy lossless)
join_passes s plan lossless response (inl (inr (large, says))) = inr (large, ap (λ (r : ResponseValue). r.status) says)
join_passes s plan lossless response (inr (shown, says)) = inl says

-- ---- the schemes of a split
-- what is so of each scheme of a list is so of those that are kept
all_kept : (P : Attributes → Type 0) (earlier later : List AttrSet) → All P (schemes_of later)
    → All P (schemes_of (without_contained_after earlier later))
all_kept P earlier [] all = all
all_kept P earlier (x ∷ later) all =
    let rest = all_kept P (earlier ++ x ∷ []) later (All-tail P (attributes x) (schemes_of later) all) in
    elim (cases_Bool (is_contained earlier x later)) [
      | inl spare ↦ rw spare rest
      | inr kept ↦ rw kept (All-cons P (attributes x) (schemes_of (without_contained_after (earlier ++ x ∷ []) later))
          (All-head P (attributes x) (schemes_of later) all) rest)
    ]

pub plan_all : (P : Attributes → Type 0) (all plan : List AttrSet) → plan ≡ without_contained all → All P (schemes_of all)
    → All P (schemes_of plan)
plan_all P all plan kept each = subst (λ (l : List AttrSet). All P (schemes_of l)) (sym kept) (all_kept P [] all each)

pub split_narrow : (s : Schema) (form : Form) (plan : List AttrSet) → IsSplitInForm s form plan
    → All (λ scheme. IsWideScheme (theory_of s) scheme → ⊥) (schemes_of plan)
split_narrow s form plan is =
    plan_all (λ (x : Attributes). IsWideScheme (theory_of s) x → ⊥) is.split.all plan is.split.kept
    (All-weaker (StaysWhole (width_of s) (theory_of s) form) (λ (x : Attributes). IsWideScheme (theory_of s) x → ⊥)
    (λ x whole. whole.narrow)
    (schemes_of is.split.all) is.split.finished.whole)

split_low : (s : Schema) (form : Form) (plan : List AttrSet) → IsSplitInForm s form plan → (form ≡ Third → ⊥)
    → All (λ scheme. IsSubset scheme (below (width_of s))) (schemes_of plan)
split_low s form plan is other =
    plan_all (λ (x : Attributes). IsSubset x (below (width_of s))) is.split.all plan is.split.kept
    (reached_plan (width_of s) (theory_of s) form (schemes_of is.split.all) s.valid.names_not_empty other
    is.split.finished.reached).within

pub split_passes : (s : Schema) (form : Form) (plan : List AttrSet) → IsSplitInForm s form plan
    → PassesCheckForm s (Higher form) (schemes_of plan)
split_passes s form plan is = form_passes s form (schemes_of plan) (split_low s form plan is) is.in_form

pub fourth_passes : (s : Schema) (plan : List AttrSet) → IsSplitInForm s Fourth plan
    → PassesCheckForm s (Higher Bcnf) (schemes_of plan)
fourth_passes s plan is =
    let n = width_of s in
    let ds = theory_of s in
    let low = split_low s Fourth plan is (λ same. cc) in
    form_passes s Bcnf (schemes_of plan) (λ other. low)
    (λ k d l. fourth_bcnf n ds (get_or (schemes_of plan) k d) (low k d l) (is.in_form k d l))

-- ---- the plans of forms
third_passes : (s : Schema) (plan : List AttrSet) → IsThirdFormPlan s plan → PassesCheckForm s (Higher Third) (schemes_of plan)
third_passes s plan is = form_passes s Third (schemes_of plan) (λ other. absurd (other refl)) is.third

pub third_plan_second : (s : Schema) (plan : List AttrSet) → IsThirdFormPlan s plan → PassesCheckForm s Second (schemes_of plan)
third_plan_second s plan is = second_passes s (schemes_of plan) is.third

pub planned_form : (s : Schema) (form : Form) (plan : List AttrSet) → IsPlanInForm s form plan
    → PassesCheckForm s (Higher form) (schemes_of plan)
planned_form s Third plan is = third_passes s plan is
planned_form s Bcnf plan is = split_passes s Bcnf plan is
planned_form s Fourth plan is = split_passes s Fourth plan is

pub planned_lossless : (s : Schema) (form : Form) (plan : List AttrSet) → IsPlanInForm s form plan
    → LosesNothing s (schemes_of plan)
planned_lossless s Third plan is = is.lossless
planned_lossless s Bcnf plan is = is.lossless
planned_lossless s Fourth plan is = is.lossless

pub planned_join : (s : Schema) (form : Form) (plan : List AttrSet) → IsPlanInForm s form plan
    → PassesCheckJoin s (schemes_of plan)
planned_join s form plan is = join_passes s (schemes_of plan) (planned_lossless s form plan is)

pub third_keeps : (s : Schema) (plan : List AttrSet) → IsThirdFormPlan s plan → PassesCheckKeeps s (schemes_of plan)
third_keeps s plan is response (inl (keeps, says)) = says
third_keeps s plan is response (inr (lost, found)) = absurd (lost is.keeps)

-- ---- wide splits
pub wide_split_form : (s : Schema) (plan : List AttrSet) → IsWideSplit s plan → PassesCheckForm s (Higher Bcnf) (schemes_of plan)
wide_split_form s plan is =
    form_passes s Bcnf (schemes_of plan)
    (λ other. plan_all (λ (x : Attributes). IsSubset x (below (width_of s))) is.split.all plan is.split.kept
    (schema_parts (theory_in s) is.split.all is.split.split).within)
    is.bcnf

pub wide_split_join : (s : Schema) (plan : List AttrSet) → IsWideSplit s plan → PassesCheckJoin s (schemes_of plan)
wide_split_join s plan is = join_passes s (schemes_of plan) is.lossless

-- ---- tableaux
pub functional_small : (s : Schema) (plan : List Attributes)
    → ((x y : Attributes) → Contains (theory_of s) (mvd x y) → ⊥) → length plan ≤ MOST_TABLEAU_ROWS
    → IsTooLarge s plan → ⊥
functional_small s plan functional short =
    functional_within_limit (width_of s) (theory_of s) plan MOST_TABLEAU_ROWS functional short

pub wide_split_small : (s : Schema) (plan : List AttrSet) → ((x y : Attributes) → Contains (theory_of s) (mvd x y) → ⊥)
    → IsWideSplit s plan → IsTooLarge s (schemes_of plan) → ⊥
wide_split_small s plan functional is =
    functional_small s (schemes_of plan) functional
    (omega (arith, length-map plan attributes, is.within_limit, s.valid.names_within_limit))
