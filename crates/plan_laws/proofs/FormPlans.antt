-- The plan of a normal form is a plan: its schemes have attributes, lie within the universe and cover it.
use Rattle.std.proofs.Common.{◌≡◌, ℕ, List}
use Rattle.std.proofs.lemmas.List.Elements.{All-contains_itself, All-weaker}
use Rattle.std.specs.Prelude.{All, Contains}
use Rattle.attr_sets.specs.Attributes.{Attributes, below, IsEmpty, IsSubset}
use Rattle.attr_sets.specs.declared.set.AttrSet.{AttrSet}
use Rattle.dep_model.proofs.DepLemmas.{dependencies_all-from}
use Rattle.dep_model.specs.Dependencies.{IsWithin}
use Rattle.dep_model.specs.Plans.{IsPlan, schemes_of}
use Rattle.schema_model.specs.Schemas.{deps_of, nullable_of, theory_of, width_of}
use Rattle.schema_model.specs.Schemas.{Schema}
use Rattle.min_cover.proofs.CoverLemmas.{fixed_is_minimal}
use Rattle.min_cover.specs.Covers.{IsMinimalCover}
use Rattle.dep_model.specs.declared.form.Form.{Form}
use Rattle.dep_model.specs.declared.form.Form.TheVariants.{Third, Bcnf, Fourth}
use Rattle.split_forms.proofs.WalkLemmas.{reached_plan}
use Rattle.synthesis_3nf.proofs.WithinLemmas.{cover_within}
use Rattle.synthesis_3nf.proofs.CompleteLemmas.{IsSynthesized, cover_groups, whole}
use Rattle.synthesis_3nf.proofs.ThirdLemmas.{cover_rules}
use Rattle.synthesis_3nf.specs.Groups.{schemes_of_groups}
use Rattle.desk_designs.specs.Decompositions.{IsPlanInForm, IsSplitInForm}
use Rattle.desk_designs.specs.Synthesis.{IsThirdFormPlan}
use Rattle.plan_laws.proofs.PassingLaws.{plan_all}

-- ---- splits
split_is_plan : (s : Schema) (form : Form) (plan : List AttrSet) → (form ≡ Third → ⊥) → IsSplitInForm s form plan
    → IsPlan (width_of s) (schemes_of plan)
split_is_plan s form plan other is =
    let all = reached_plan (width_of s) (theory_of s) form (schemes_of is.split.all) s.valid.names_not_empty other
    is.split.finished.reached in
    record {
      within = plan_all (λ (x : Attributes). IsSubset x (below (width_of s))) is.split.all plan is.split.kept all.within;
      not_empty = plan_all (λ (x : Attributes). IsEmpty x → ⊥) is.split.all plan is.split.kept all.not_empty;
      covers = is.lossless.covers;
    }

-- ---- grouped plans
third_is_plan : (s : Schema) (plan : List AttrSet) → IsThirdFormPlan s plan → IsPlan (width_of s) (schemes_of plan)
third_is_plan s plan is = record {
  within = plan_all (λ (x : Attributes). IsSubset x (below n)) all plan is.grouped.kept
      (All-weaker (Contains (schemes_of all)) (λ (x : Attributes). IsSubset x (below n)) made.within (schemes_of all)
      (All-contains_itself (schemes_of all)));
  not_empty = plan_all (λ (x : Attributes). IsEmpty x → ⊥) all plan is.grouped.kept
      (All-weaker (Contains (schemes_of all)) (λ (x : Attributes). IsEmpty x → ⊥) made.not_empty (schemes_of all)
      (All-contains_itself (schemes_of all)));
  covers = is.lossless.covers;
}
  where
    n : ℕ
    n = width_of s

    all : List AttrSet
    all = is.grouped.all

    within : All (IsWithin (below n)) (theory_of s)
    within = dependencies_all-from (IsWithin (below n)) (deps_of s) s.valid.deps_within

    minimal : IsMinimalCover n (theory_of s) is.grouped.cover
    minimal = fixed_is_minimal n (theory_of s) is.grouped.cover within is.grouped.steps.fixed

    low : All (IsWithin (below n)) is.grouped.cover
    low = cover_within n (theory_of s) is.grouped.cover within is.grouped.steps.fixed

    made : IsSynthesized n (theory_of s) is.grouped.cover (schemes_of all)
    made = whole n (theory_of s) is.grouped.cover s.valid.names_not_empty
        (cover_rules n (theory_of s) is.grouped.cover minimal low) (schemes_of_groups is.grouped.cover)
        (cover_groups n (theory_of s) is.grouped.cover s.valid.names_within_limit minimal low) (nullable_of s)
        (schemes_of all) is.grouped.steps.completed

pub form_is_plan : (s : Schema) (form : Form) (plan : List AttrSet) → IsPlanInForm s form plan
    → IsPlan (width_of s) (schemes_of plan)
form_is_plan s Third plan is = third_is_plan s plan is
form_is_plan s Bcnf plan is = split_is_plan s Bcnf plan (λ same. cc) is
form_is_plan s Fourth plan is = split_is_plan s Fourth plan (λ same. cc) is
