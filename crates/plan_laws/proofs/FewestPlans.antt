-- The plan of `synthesize fewest`: it passes the tests of plans, and has few schemes.
use Rattle.std.proofs.Common.{◌≤◌, ◌+◌, if◌then◌else◌, nat_lt, Bool, List, [], ◌∷◌, length, map, refl, ap, inl, inr, arith}
use Rattle.std.proofs.lemmas.Bool.{cases_Bool, ltb-true}
use Rattle.std.proofs.lemmas.List.{length-append, length-map}
use Rattle.attr_sets.specs.Attributes.{Attributes}
use Rattle.attr_sets.specs.Sets.{attributes}
use Rattle.attr_sets.specs.declared.set.AttrSet.{AttrSet}
use Rattle.dep_model.specs.Plans.{schemes_of}
use Rattle.dep_model.specs.declared.form.Form.TheVariants.{Third}
use Rattle.which_form.specs.declared.forms.TestedForm.TheVariants.{Second, Higher}
use Rattle.schema_model.specs.Schemas.{Schema, width_of, theory_of, nullable_of}
use Rattle.wide_bcnf.proofs.SplitLemmas.{length-without_contained_after}
use Rattle.fewest_tables.specs.KeyedDesigns.{KeyedScheme, StatesDependencies}
use Rattle.fewest_tables.specs.MergedPlans.{IsMergedPlan, merged_scheme, smaller}
use Rattle.synthesis_3nf.specs.GroupedPlans.{IsWithKey}
use Rattle.desk_designs.specs.FewestTables.{IsFewestTables}
use Rattle.desk_designs.specs.Synthesis.{IsThirdFormPlan}
use Rattle.plan_laws.specs.Passing.{PassesCheckForm, PassesCheckJoin, PassesCheckKeeps}
use Rattle.plan_laws.proofs.PassingLaws.{form_passes, join_passes, second_passes}
use Rattle.plan_laws.proofs.UniqueLaws.{grouped_same}

-- ---- the tests
pub fewest_third : (s : Schema) (plan : List AttrSet) → IsFewestTables s plan → PassesCheckForm s (Higher Third) (schemes_of plan)
fewest_third s plan is = form_passes s Third (schemes_of plan) (λ other. absurd (other refl)) is.third

pub fewest_second : (s : Schema) (plan : List AttrSet) → IsFewestTables s plan → PassesCheckForm s Second (schemes_of plan)
fewest_second s plan is = second_passes s (schemes_of plan) is.third

pub fewest_join : (s : Schema) (plan : List AttrSet) → IsFewestTables s plan → PassesCheckJoin s (schemes_of plan)
fewest_join s plan is = join_passes s (schemes_of plan) is.lossless

pub fewest_keeps : (s : Schema) (plan : List AttrSet) → IsFewestTables s plan → PassesCheckKeeps s (schemes_of plan)
fewest_keeps s plan is response (inl (keeps, says)) = says
fewest_keeps s plan is response (inr (lost, found)) = absurd (lost is.keeps)

-- ---- how many schemes
pub no_more_than_synthesis : (s : Schema) (plan other : List AttrSet) → IsFewestTables s plan → IsThirdFormPlan s other → length plan ≤ length other
no_more_than_synthesis s plan other is third =
    let same = grouped_same (width_of s) (theory_of s) (nullable_of s) is.made.grouped other is.made.is_grouped third.grouped in
    omega (arith, is.no_more, ap (λ (l : List Attributes). length l) same, length-map is.made.grouped attributes, length-map other attributes)

-- the smaller one of two plans is no larger than the first
smaller_first : (first second : List AttrSet) → length (smaller first second) ≤ length first
smaller_first first second =
    let chosen : Bool → List AttrSet = λ b. if b then second else first in
    elim (cases_Bool (nat_lt (length second) (length first))) [
      | inl less ↦ omega (arith, ltb-true (length second) (length first) less, ap (λ (l : List AttrSet). length l) (ap chosen less))
      | inr not ↦ omega (arith, ap (λ (l : List AttrSet). length l) (ap chosen not))
    ]

-- a key makes one scheme more
with_key_long : (s : Schema) (nullable : Attributes) (groups all : List Attributes) → IsWithKey (width_of s) (theory_of s) nullable groups all → length all ≤ length groups + 1
with_key_long s nullable groups all (inl (held, same)) = omega (arith, ap (λ (l : List Attributes). length l) same)
with_key_long s nullable groups all (inr added) =
    omega (arith, ap (λ (l : List Attributes). length l) added.last, length-append groups (added.key ∷ []))

merged_long : (s : Schema) (merged : List AttrSet) (is : IsMergedPlan (width_of s) (theory_of s) (nullable_of s) merged) → length merged ≤ length is.groups + 1
merged_long s merged is =
    let kept = ap (λ (l : List AttrSet). length l) is.left in
    omega (
      arith,
      kept,
      length-without_contained_after [] is.all,
      length-map is.all attributes,
      with_key_long s (nullable_of s) (map (merged_scheme is.kept) is.groups) (schemes_of is.all) is.steps.completed,
      length-map is.groups (merged_scheme is.kept),
    )

pub one_more_than_designs : (s : Schema) (plan : List AttrSet) (design : List KeyedScheme) → IsFewestTables s plan → StatesDependencies (width_of s) (theory_of s) design → length plan ≤ length design + 1
one_more_than_designs s plan design is states =
    omega (arith, ap (λ (l : List AttrSet). length l) is.made.chosen, smaller_first is.made.merged is.made.grouped, merged_long s is.made.merged is.made.is_merged, is.fewest design states)
