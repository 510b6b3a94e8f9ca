-- The groups, the members that are kept and the plan that the code makes of a theory.
use Rattle.std.proofs.Common.{◌≡◌, ℕ, ◌≤◌, ◌⊎◌, Bool, true, nat_lt, if◌then◌else◌, List, [], ◌++◌, map, length, sym, subst, ap, inl, inr, arith}
use Rattle.std.specs.Prelude.{All, Contains}
use Rattle.std.specs.List.{list_any, flat_map}
use Rattle.std.proofs.lemmas.Bool.{cases_Bool, ltb-false}
use Rattle.std.proofs.lemmas.List.Elements.{All-contains, All-filter, filter_passes}
use Rattle.attr_sets.specs.Attributes.{Attributes, below, IsSubset}
use Rattle.attr_sets.specs.Sets.{attributes}
use Rattle.attr_sets.specs.declared.set.AttrSet.{AttrSet}
use Rattle.dep_model.specs.declared.dep.Dep.{Dep}
use Rattle.dep_model.specs.Dependencies.{Dependency, is_fd, functional_part, IsWithin}
use Rattle.dep_model.specs.Deps.{dependency_of, dependencies_of, IsDepWithin}
use Rattle.dep_model.specs.Forms.{IsThird}
use Rattle.dep_model.specs.Plans.{IsPlan, schemes_of}
use Rattle.dep_model.specs.Preservation.{KeepsDependencies}
use Rattle.dep_model.specs.Projections.{IsLossless}
use Rattle.dep_model.specs.Theories.{Theory, width_of, deps_of, theory_of}
use Rattle.dep_model.proofs.DepLemmas.{dependencies_all-from}
use Rattle.dep_model.proofs.ListLemmas.{All-members, Contains-map, map-member}
use Rattle.fd_closure.specs.Closures.{IsKnownClosure}
use Rattle.fd_closure.specs.declared.known.KnownClosure.{KnownClosure}
use Rattle.min_cover.specs.Covers.{IsMinimalCover, IsThinned}
use Rattle.min_cover.proofs.CoverLemmas.{fixed_is_minimal}
use Rattle.plans.specs.Containing.{lies_within, without_contained}
use Rattle.plans.specs.declared.plan.Plan.{Plan}
use Rattle.synthesis_3nf.specs.GroupedPlans.{IsGroupedPlan}
use Rattle.synthesis_3nf.specs.Groups.{left_sides_after}
use Rattle.synthesis_3nf.proofs.CompleteLemmas.{AreThirdSchemes, IsSynthesized, are_lossless, are_plan, kept_keeps, kept_third, whole}
use Rattle.synthesis_3nf.proofs.GroupSchemes.{AreRules}
use Rattle.synthesis_3nf.proofs.ThirdLemmas.{functional_same}
use Rattle.synthesis_3nf.proofs.WithinLemmas.{cover_within}
use Rattle.fewest_tables.specs.Alike.{AreGroups, all_exchanges, firsts_after}
use Rattle.fewest_tables.specs.FewestSteps.{AreFewestSteps, group_with, groups_in, same_closure, set_of, sets_of, shared_exchanges}
use Rattle.fewest_tables.specs.declared.steps.FewestSteps.{FewestSteps}
use Rattle.fewest_tables.specs.KeyedDesigns.{AreFewest}
use Rattle.fewest_tables.specs.MergedPlans.{AreMergedSteps, IsFewestPlan, merged_scheme, smaller}
use Rattle.fewest_tables.proofs.AlikeLemmas.{IsGrouped, grouped_by_closures, groups_are}
use Rattle.fewest_tables.proofs.ExchangeLemmas.{AreLow, shared_same, shared_within}
use Rattle.fewest_tables.proofs.FewestLemmas.{fewest_groups}
use Rattle.fewest_tables.proofs.ThinnedLemmas.{thinned_beside}
use Rattle.fewest_tables.proofs.MergedLemmas.{groups_low, left_sides_low, merged_rules, merged_schemes_are}

-- ---- the dependencies of a theory
deps_within : (s : Theory) → All (IsWithin (below (width_of s))) (theory_of s)
deps_within s = dependencies_all-from (IsWithin (below (width_of s))) (deps_of s) s.valid.deps_within

-- ---- groups
pub groups_made : (s : Theory) (lefts : List AttrSet) (known firsts : List KnownClosure) → All (λ left. IsSubset (attributes left) (below (width_of s))) lefts
    → sets_of known ≡ schemes_of lefts → All (IsKnownClosure (width_of s) (functional_part (theory_of s))) known → firsts ≡ firsts_after same_closure [] known
    → AreGroups (width_of s) (theory_of s) (schemes_of lefts) (map (group_with known) firsts)
groups_made s lefts known firsts within sets closures are =
    let n = width_of s in
    let ds = theory_of s in
    let functional_in = All-filter is_fd (IsWithin (below n)) ds (deps_within s) in
    let functional = functional_same (functional_part ds) (filter_passes is_fd ds) in
    let set_in : All (λ (one : KnownClosure). IsSubset (set_of one) (below n)) known =
    All-members (λ (one : KnownClosure). IsSubset (set_of one) (below n)) known (λ one has.
    let found = map-member attributes lefts (set_of one) (subst (λ (l : List Attributes). Contains l (set_of one)) sets (Contains-map set_of known one has)) in
    subst (λ (x : Attributes). IsSubset x (below n)) found.2 (All-contains (λ (left : AttrSet). IsSubset (attributes left) (below n)) lefts found.0 within found.1)) in
    subst (λ (xs : List Attributes). AreGroups n ds xs (map (group_with known) firsts)) sets
    (subst (λ (l : List KnownClosure). AreGroups n ds (sets_of known) (map (group_with known) l)) (sym are)
    (grouped_by_closures n ds s.valid.within_limit functional_in functional known closures set_in))

-- ---- the steps to a merged plan
module _ (s : Theory) (nullable : Attributes) (cover : List Dependency) (groups : List (List Attributes)) (kept : List Dependency) (all : List Attributes)
    (steps : AreMergedSteps (width_of s) (theory_of s) nullable cover groups kept all) where
  minimal : IsMinimalCover (width_of s) (theory_of s) cover
  minimal = fixed_is_minimal (width_of s) (theory_of s) cover (deps_within s) steps.fixed

  within : All (IsWithin (below (width_of s))) cover
  within = cover_within (width_of s) (theory_of s) cover (deps_within s) steps.fixed

  grouped : IsGrouped (width_of s) (theory_of s) (left_sides_after [] cover) groups
  grouped = groups_are (width_of s) (theory_of s) (left_sides_after [] cover) groups steps.grouped

  abbrev rules : List Dependency
  rules = all_exchanges groups ++ kept

  rules_are : AreRules (width_of s) (theory_of s) rules
  rules_are = merged_rules (width_of s) (theory_of s) cover s.valid.within_limit minimal within groups grouped kept steps.thinned

  schemes_are : AreThirdSchemes (width_of s) (theory_of s) rules (map (merged_scheme kept) groups)
  schemes_are = merged_schemes_are (width_of s) (theory_of s) cover s.valid.within_limit minimal within groups grouped kept steps.thinned

  made : IsSynthesized (width_of s) (theory_of s) rules all
  made = whole (width_of s) (theory_of s) rules s.valid.not_empty rules_are (map (merged_scheme kept) groups) schemes_are nullable all steps.completed

  -- no design by keys has fewer schemes than groups
  pub steps_fewest : AreFewest (width_of s) (theory_of s) groups
  steps_fewest = fewest_groups (width_of s) (theory_of s) cover groups s.valid.within_limit minimal within steps.grouped

  pub steps_plan : IsPlan (width_of s) all
  steps_plan = are_plan (width_of s) (theory_of s) rules s.valid.not_empty rules_are all made

  pub steps_lossless : IsLossless (width_of s) (theory_of s) all
  steps_lossless = are_lossless (width_of s) (theory_of s) rules s.valid.not_empty rules_are all made

-- and without contained ones
module _ (s : Theory) (nullable : Attributes) (cover : List Dependency) (groups : List (List Attributes)) (kept : List Dependency) (all left : List AttrSet)
    (steps : AreMergedSteps (width_of s) (theory_of s) nullable cover groups kept (schemes_of all)) where
  pub steps_third : All (λ (k : AttrSet). Contains all k) left → All (IsThird (width_of s) (theory_of s)) (schemes_of left)
  steps_third = kept_third (width_of s) (theory_of s) (all_exchanges groups ++ kept) s.valid.not_empty (rules_are s nullable cover groups kept (schemes_of all) steps)
      all left (made s nullable cover groups kept (schemes_of all) steps)

  pub steps_keep : All (λ (k : AttrSet). list_any (lies_within k) left ≡ true) all → KeepsDependencies (width_of s) (theory_of s) (schemes_of left)
  steps_keep = kept_keeps (width_of s) (theory_of s) (all_exchanges groups ++ kept) s.valid.not_empty (rules_are s nullable cover groups kept (schemes_of all) steps)
      all left (made s nullable cover groups kept (schemes_of all) steps)

-- ---- before the key is added
-- the groups of left sides of a cover lie within the universe
pub groups_made_low : (s : Theory) (cover : List Dependency) (groups : List (List Attributes)) → All (IsWithin (below (width_of s))) cover
    → AreGroups (width_of s) (theory_of s) (left_sides_after [] cover) groups → AreLow (width_of s) groups
groups_made_low s cover groups within are =
    groups_low (width_of s) (theory_of s) cover groups within (groups_are (width_of s) (theory_of s) (left_sides_after [] cover) groups are)

pub lefts_low : (s : Theory) (cover : List Dependency) (lefts : List AttrSet) → All (IsWithin (below (width_of s))) cover → schemes_of lefts ≡ left_sides_after [] cover
    → All (λ left. IsSubset (attributes left) (below (width_of s))) lefts
lefts_low s cover lefts within are = All-members (λ (left : AttrSet). IsSubset (attributes left) (below (width_of s))) lefts (λ left has.
    left_sides_low (width_of s) cover within (attributes left) (subst (λ (l : List Attributes). Contains l (attributes left)) are (Contains-map attributes lefts left has)))

-- and so do their schemes
pub merged_low : (s : Theory) (cover : List Dependency) (groups : List (List Attributes)) (kept : List Dependency) (schemes : List AttrSet)
    → IsMinimalCover (width_of s) (theory_of s) cover → All (IsWithin (below (width_of s))) cover → AreGroups (width_of s) (theory_of s) (left_sides_after [] cover) groups
    → IsThinned (width_of s) (all_exchanges groups) cover (all_exchanges groups ++ kept) → schemes_of schemes ≡ map (merged_scheme kept) groups
    → All (λ scheme. IsSubset (attributes scheme) (below (width_of s))) schemes
merged_low s cover groups kept schemes minimal within are thinned same =
    let grouped = groups_are (width_of s) (theory_of s) (left_sides_after [] cover) groups are in
    let low = (merged_schemes_are (width_of s) (theory_of s) cover s.valid.within_limit minimal within groups grouped kept thinned).within in
    All-members (λ (scheme : AttrSet). IsSubset (attributes scheme) (below (width_of s))) schemes (λ scheme has.
    low (attributes scheme) (subst (λ (l : List Attributes). Contains l (attributes scheme)) same (Contains-map attributes schemes scheme has)))

-- ---- the smaller one of two plans
pub smaller_no_more : (first second : List AttrSet) → length (smaller first second) ≤ length second
smaller_no_more first second =
    let chosen : Bool → List AttrSet = λ b. if b then second else first in
    elim (cases_Bool (nat_lt (length second) (length first))) [
      | inl less ↦ omega (arith, ap (λ (l : List AttrSet). length l) (ap chosen less))
      | inr other ↦ omega (arith, ltb-false (length second) (length first) other, ap (λ (l : List AttrSet). length l) (ap chosen other))
    ]

-- what both have it has
pub chosen_has : (P : Plan → Type 0) (first second result : Plan) → (result ≡ first) ⊎ (result ≡ second) → P first → P second → P result
chosen_has P first second result (inl is) one other = subst P (sym is) one
chosen_has P first second result (inr is) one other = subst P (sym is) other

-- the plan of the steps
pub plan_made : (n : ℕ) (ds : List Dependency) (nullable : Attributes) (steps : FewestSteps) (merged grouped plan : List AttrSet) → AreFewestSteps n ds nullable steps
    → merged ≡ without_contained steps.schemes.items → IsGroupedPlan n ds nullable grouped → plan ≡ smaller merged grouped → IsFewestPlan n ds nullable plan
plan_made n ds nullable steps merged grouped plan are left is_grouped chosen = record {
  merged = merged;
  is_merged = record {
    cover = dependencies_of steps.plain.cover.items;
    groups = groups_in steps.groups;
    kept = dependencies_of steps.kept.items;
    all = steps.schemes.items;
    steps = are.merged;
    left = left;
  };
  grouped = grouped;
  is_grouped = is_grouped;
  chosen = chosen;
}

-- the groups of any such plan are the fewest
pub plan_fewest : (s : Theory) (nullable : Attributes) (plan : List AttrSet) (is : IsFewestPlan (width_of s) (theory_of s) nullable plan) → AreFewest (width_of s) (theory_of s) is.is_merged.groups
plan_fewest s nullable plan is =
    steps_fewest s nullable is.is_merged.cover is.is_merged.groups is.is_merged.kept (schemes_of is.is_merged.all) is.is_merged.steps

-- ---- what is alike, as the code says it
pub shared_deps_within : (s : Theory) (groups : List (List Attributes)) (rules : List Dep) → AreLow (width_of s) groups → dependencies_of rules ≡ flat_map shared_exchanges groups
    → All (IsDepWithin (below (width_of s))) rules
shared_deps_within s groups rules low are =
    let n = width_of s in
    let each = subst (λ (l : List Dependency). All (IsWithin (below n)) l) (sym are) (shared_within n s.valid.within_limit groups low) in
    All-members (IsDepWithin (below n)) rules (λ d has. All-contains (IsWithin (below n)) (dependencies_of rules) (dependency_of d) each (Contains-map dependency_of rules d has))

pub kept_by_shared : (s : Theory) (groups : List (List Attributes)) (shared cover kept : List Dependency) → AreLow (width_of s) groups → shared ≡ flat_map shared_exchanges groups
    → IsThinned (width_of s) shared cover (shared ++ kept) → IsThinned (width_of s) (all_exchanges groups) cover (all_exchanges groups ++ kept)
kept_by_shared s groups shared cover kept low are thinned =
    let n = width_of s in
    thinned_beside n (flat_map shared_exchanges groups) (all_exchanges groups) cover kept (shared_same n s.valid.within_limit groups low)
    (subst (λ (l : List Dependency). IsThinned n l cover (l ++ kept)) are thinned)
