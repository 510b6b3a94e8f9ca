-- How many schemes a plan has: in the order of a design no more than before, and the plan of a normal form no more than
-- there are names of tables.
use Rattle.std.proofs.Common.{◌≡◌, ◌≤◌, ◌+◌, ◌*◌, ◌==◌, ◌++◌, ℕ, zero, suc, List, [], ◌∷◌, length, inl, inr, ⊎_elim, refl, ap, subst, arith}
use Rattle.std.proofs.lemmas.Bool.{cases_Bool, cases_lt, eqb-true, ne_eqb}
use Rattle.std.proofs.lemmas.List.{length-append, length-map}
use Rattle.std.proofs.lemmas.Slice.Zip.{AllZip-long}
use Rattle.std.specs.List.{flat_map, list_any}
use Rattle.attr_sets.proofs.AttributesLemmas.{count_below-le}
use Rattle.attr_sets.specs.Attributes.{Attributes, difference, only}
use Rattle.attr_sets.specs.Sets.{attributes, is_same}
use Rattle.attr_sets.specs.declared.set.AttrSet.{AttrSet}
use Rattle.dep_model.proofs.SchemeLemmas.{length-members_below}
use Rattle.dep_model.specs.Dependencies.{Dependency, fd, left_of, mvd}
use Rattle.dep_model.specs.Deps.{dependency_of}
use Rattle.dep_model.specs.Plans.{schemes_of}
use Rattle.dep_model.specs.Projections.{members_below}
use Rattle.schema_model.specs.Schemas.{deps_of, theory_of, width_of}
use Rattle.schema_model.specs.Schemas.{Schema}
use Rattle.wide_bcnf.proofs.SplitLemmas.{length-without_contained_after}
use Rattle.design_order.specs.Order.{IsInDesignOrder, grouped_below, with_number}
use Rattle.min_cover.specs.Covers.{IsThinned}
use Rattle.min_cover.specs.Members.{IsLeftReducedDependency, members_of}
use Rattle.dep_model.specs.declared.form.Form.{Form}
use Rattle.dep_model.specs.declared.form.Form.TheVariants.{Third, Bcnf, Fourth}
use Rattle.plans.specs.Containing.{without_contained}
use Rattle.split_forms.proofs.StepLemmas.{reached_length}
use Rattle.split_forms.specs.Lists.{ReachedIn}
use Rattle.split_forms.specs.Splitting.{IsCutBy, StaysWhole}
use Rattle.synthesis_3nf.specs.Groups.{group_scheme, left_sides_after, schemes_of_groups}
use Rattle.table_names.specs.declared.numbered.TheConstants.{MOST_TABLES}
use Rattle.desk_designs.specs.Decompositions.{IsPlanInForm, IsSplitInForm}
use Rattle.desk_designs.specs.Synthesis.{IsThirdFormPlan}
use Rattle.desk_designs.specs.declared.decomposition.TheConstants.{MOST_SPLIT_SCHEMES}

-- ---- in the order of a design
nothing_grouped : (X : Type 0) (number : ℕ) (ms : List ℕ) → length (grouped_below {X = X} number [] ms) ≡ 0
nothing_grouped X zero ms = refl
nothing_grouped X (suc number) ms =
    let whole = length-append (grouped_below {X = X} number [] ms) [] in
    omega (arith, whole, nothing_grouped X number ms)

module _ {X : Type 0} where
  unnumbered : (number : ℕ) (x : X) (xs : List X) → length (grouped_below number (x ∷ xs) []) ≡ 0
  unnumbered zero x xs = refl
  unnumbered (suc number) x xs =
      let whole = length-append (grouped_below number (x ∷ xs) []) [] in
      omega (arith, whole, unnumbered number x xs)

  -- one with a number that is too large counts for nothing
  beyond : (number : ℕ) (x : X) (xs : List X) (m : ℕ) (ms : List ℕ) → number ≤ m
      → length (grouped_below number (x ∷ xs) (m ∷ ms)) ≡ length (grouped_below number xs ms)
  beyond zero x xs m ms large = refl
  beyond (suc number) x xs m ms large =
      let other = ne_eqb m number (λ same. omega (arith, large, same)) in
      let before = beyond number x xs m ms (omega (arith, large)) in
      let here : length (with_number number (x ∷ xs) (m ∷ ms)) ≡ length (with_number number xs ms) = rw other refl in
      omega (
        arith,
        before,
        here,
        length-append (grouped_below number (x ∷ xs) (m ∷ ms)) (with_number number (x ∷ xs) (m ∷ ms)),
        length-append (grouped_below number xs ms) (with_number number xs ms),
      )

  -- and any other for one at most
  one_more : (number : ℕ) (x : X) (xs : List X) (m : ℕ) (ms : List ℕ)
      → length (grouped_below number (x ∷ xs) (m ∷ ms)) ≤ length (grouped_below number xs ms) + 1
  one_more zero x xs m ms = omega arith
  one_more (suc number) x xs m ms =
      let whole = length-append (grouped_below number (x ∷ xs) (m ∷ ms)) (with_number number (x ∷ xs) (m ∷ ms)) in
      let rest = length-append (grouped_below number xs ms) (with_number number xs ms) in
      elim (cases_Bool (m == number)) [
        | inl same ↦
            let is = eqb-true m number same in
            let before = beyond number x xs m ms (omega (arith, is)) in
            let here : length (with_number number (x ∷ xs) (m ∷ ms)) ≡ suc (length (with_number number xs ms)) =
            rw same refl in
            omega (arith, whole, rest, before, here)
        | inr other ↦
            let before = one_more number x xs m ms in
            let here : length (with_number number (x ∷ xs) (m ∷ ms)) ≡ length (with_number number xs ms) =
            rw other refl in
            omega (arith, whole, rest, before, here)
      ]

  grouped_length : (number : ℕ) (xs : List X) (ms : List ℕ) → length (grouped_below number xs ms) ≤ length xs
  grouped_length number [] ms = omega (arith, nothing_grouped X number ms)
  grouped_length number (x ∷ xs) [] = omega (arith, unnumbered number x xs)
  grouped_length number (x ∷ xs) (m ∷ ms) =
      omega (arith, one_more number x xs m ms, grouped_length number xs ms)

pub ordered_length : (n : ℕ) (ds : List Dependency) (plan ordered : List Attributes) → IsInDesignOrder n ds plan ordered
    → length ordered ≤ length plan
ordered_length n ds plan ordered is =
    let same = ap (λ (schemes : List Attributes). length schemes) is.grouped in
    omega (arith, same, grouped_length (n + 1) plan is.counts)

-- ---- without contained schemes
plan_length : (all plan : List AttrSet) → plan ≡ without_contained all → length plan ≤ length all
plan_length all plan is =
    let same = ap (λ (l : List AttrSet). length l) is in
    omega (arith, same, length-without_contained_after [] all)

-- ---- splits
module _ (n : ℕ) (Whole : Attributes → Type 0) (Cut : Attributes → Attributes → Attributes → Type 0) where
  -- on the way to a list there is one after each smaller number of steps
  reached_before : (k count : ℕ) (l : List Attributes) → ReachedIn n Whole Cut count l → k ≤ count
      → (m : List Attributes) × ReachedIn n Whole Cut k m
  reached_before zero zero l reached low = (l, reached)
  reached_before (suc k) zero l reached low = absurd (omega (arith, low))
  reached_before k (suc count) l reached low = elim (cases_lt k (suc count)) [
    | inl less ↦ reached_before k count reached.0 reached.1 (omega (arith, less))
    | inr from_on ↦
        let same : suc count ≡ k = omega (arith, from_on, low) in
        subst (λ (m : ℕ). (l : List Attributes) × ReachedIn n Whole Cut m l) same (l, reached)
  ]

split_length : (s : Schema) (form : Form) (plan : List AttrSet) → IsSplitInForm s form plan
    → length plan ≤ MOST_SPLIT_SCHEMES
split_length s form plan is =
    let n = width_of s in
    let Whole = StaysWhole n (theory_of s) form in
    let Cut = IsCutBy n (theory_of s) form in
    let all = is.split.all in
    let (count, reached) = is.split.finished.reached in
    let size = reached_length Whole Cut n count (schemes_of all) reached in
    let same = length-map all attributes in
    let kept = plan_length all plan is.split.kept in
    elim (cases_lt count MOST_SPLIT_SCHEMES) [
      | inl few ↦ omega (arith, size, same, kept, few)
      | inr many ↦
          let (m, before) = reached_before n Whole Cut MOST_SPLIT_SCHEMES count (schemes_of all) reached many in
          absurd (is.within_limits.within_limit
          (record {
            schemes = m;
            reached = (MOST_SPLIT_SCHEMES, before);
            many = reached_length Whole Cut n MOST_SPLIT_SCHEMES m before;
          }))
    ]

-- ---- grouped plans
thinned_length : (n : ℕ) (kept ds rest : List Dependency) → IsThinned n kept ds rest
    → length rest ≤ length kept + length ds
thinned_length n kept [] rest thinned =
    let same = ap (λ (l : List Dependency). length l) thinned in omega (arith, same)
thinned_length n kept (d ∷ later) rest thinned = ⊎_elim
    (λ out. omega (arith, thinned_length n kept later rest out.1))
    (λ stays. omega (arith, thinned_length n (kept ++ d ∷ []) later rest stays.1, length-append kept (d ∷ [])))
    thinned

members_length : (n : ℕ) (d : Dependency) → length (members_of n d) ≤ n
members_length n (fd x y) =
    omega (
      arith,
      length-map (members_below n (difference y x)) (λ (a : ℕ). fd x (only a)),
      length-members_below n (difference y x),
      count_below-le n (difference y x),
    )
members_length n (mvd x y) = omega arith

firsts_length : (n : ℕ) → n ≤ 128 → (ds : List Dependency) → length (flat_map (members_of n) ds) ≤ length ds * 128
firsts_length n wide [] = omega arith
firsts_length n wide (d ∷ ds) =
    omega (
      arith,
      wide,
      length-append (members_of n d) (flat_map (members_of n) ds),
      members_length n d,
      firsts_length n wide ds,
    )

lefts_length : (earlier : List Attributes) (ds : List Dependency) → length (left_sides_after earlier ds) ≤ length ds
lefts_length earlier [] = omega arith
lefts_length earlier (d ∷ ds) = elim (cases_Bool (list_any (λ x. is_same x (left_of d)) earlier)) [
  | inl stands ↦ rw stands (let rest = lefts_length earlier ds in omega (arith, rest))
  | inr new ↦ rw new (let rest = lefts_length (earlier ++ left_of d ∷ []) ds in omega (arith, rest))
]

groups_length : (cover : List Dependency) → length (schemes_of_groups cover) ≤ length cover
groups_length cover =
    omega (arith, length-map (left_sides_after [] cover) (group_scheme cover), lefts_length [] cover)

third_length : (s : Schema) (plan : List AttrSet) → IsThirdFormPlan s plan → length plan ≤ MOST_TABLES
third_length s plan is =
    let n = width_of s in
    let grouped = is.grouped in
    let cover = grouped.cover in
    let fixed = grouped.steps.fixed in
    let firsts = firsts_length n s.valid.names_within_limit (theory_of s) in
    let members = AllZip-long (IsLeftReducedDependency n (theory_of s)) (flat_map (members_of n) (theory_of s)) fixed.members
    fixed.shortened in
    let thinned = thinned_length n [] fixed.members cover fixed.thinned in
    let given = length-map (deps_of s) dependency_of in
    let kept = plan_length grouped.all plan grouped.kept in
    let all = length-map grouped.all attributes in
    let groups = groups_length cover in
    let completed : length (schemes_of grouped.all) ≤ length (schemes_of_groups cover) + 1 = ⊎_elim
    (λ holds. let same = ap (λ (l : List Attributes). length l) holds.1 in omega (arith, same))
    (λ added.
    let same = ap (λ (l : List Attributes). length l) added.last in
    omega (arith, same, length-append (schemes_of_groups cover) (added.key ∷ [])))
    grouped.steps.completed in
    omega (arith, s.valid.deps_within_limit, firsts, members, thinned, given, kept, all, groups, completed)

pub form_length : (s : Schema) (form : Form) (plan : List AttrSet) → IsPlanInForm s form plan → length plan ≤ MOST_TABLES
form_length s Third plan is = third_length s plan is
form_length s Bcnf plan is = omega (arith, split_length s Bcnf plan is)
form_length s Fourth plan is = omega (arith, split_length s Fourth plan is)
