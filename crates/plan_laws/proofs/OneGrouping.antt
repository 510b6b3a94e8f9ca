-- Left sides that determine each other form one list of groups, and a merged plan comes about in one way.
use Rattle.std.proofs.Common.{◌≡◌, ℕ, Bool, List, [], ◌∷◌, ◌++◌, map, get_or, refl, sym, ap, subst, ◌∙◌, inl, inr}
use Rattle.std.specs.Prelude.{All, Contains, filter}
use Rattle.std.specs.List.{list_any}
use Rattle.std.proofs.lemmas.Bool.{cases_Bool}
use Rattle.std.proofs.lemmas.List.{append_cancel_left}
use Rattle.std.proofs.lemmas.List.Elements.{All-append, All-cons, All-head, All-nil, All-tail}
use Rattle.attr_sets.specs.Attributes.{Attributes}
use Rattle.attr_sets.specs.declared.set.AttrSet.{AttrSet}
use Rattle.attr_sets.proofs.AttributesLemmas.{same_truth}
use Rattle.dep_model.specs.Dependencies.{Dependency}
use Rattle.dep_model.specs.Plans.{schemes_of}
use Rattle.dep_model.proofs.ListLemmas.{All-members}
use Rattle.min_cover.specs.Covers.{IsThinned}
use Rattle.synthesis_3nf.specs.GroupedPlans.{IsWithKey}
use Rattle.synthesis_3nf.specs.Groups.{left_sides_after}
use Rattle.fewest_tables.specs.Alike.{AreGroups, DecidesAlike, all_exchanges, firsts_after, groups_of}
use Rattle.fewest_tables.specs.MergedPlans.{AreMergedSteps, IsMergedPlan, merged_scheme}
use Rattle.implication_laws.proofs.OneCover.{one_cover, one_thinned}
use Rattle.plan_laws.proofs.UniqueLaws.{kept_same, with_key_same}

-- ---- tests that agree
filter_agrees : (p q : Attributes → Bool) (ys : List Attributes) → All (λ y. p y ≡ q y) ys → filter p ys ≡ filter q ys
filter_agrees p q [] all = refl
filter_agrees p q (y ∷ ys) all =
    let P : Attributes → Type 0 = λ (z : Attributes). p z ≡ q z in
    rw (All-head P y ys all, filter_agrees p q ys (All-tail P y ys all)) refl

any_agrees : (p q : Attributes → Bool) (ys : List Attributes) → All (λ y. p y ≡ q y) ys → list_any p ys ≡ list_any q ys
any_agrees p q [] all = refl
any_agrees p q (y ∷ ys) all =
    let P : Attributes → Type 0 = λ (z : Attributes). p z ≡ q z in
    rw (All-head P y ys all, any_agrees p q ys (All-tail P y ys all)) refl

-- two tests of pairs agree on the members of a list
abbrev AgreeOn : List Attributes → (Attributes → Attributes → Bool) → (Attributes → Attributes → Bool) → Type 0
AgreeOn xs p q = (x y : Attributes) → Contains xs x → Contains xs y → p x y ≡ q x y

both_decide : (n : ℕ) (ds : List Dependency) (xs : List Attributes) (p q : Attributes → Attributes → Bool)
    → DecidesAlike n ds xs p → DecidesAlike n ds xs q → AgreeOn xs p q
both_decide n ds xs p q first second x y at also =
    same_truth (p x y) (q x y)
    (λ is. (second x y at also).1 ((first x y at also).0 is))
    (λ is. (first x y at also).1 ((second x y at also).0 is))

module _ (xs : List Attributes) (p q : Attributes → Attributes → Bool) (agree : AgreeOn xs p q) where
  abbrev AreIn : List Attributes → Type 0
  AreIn ys = All (λ (y : Attributes). Contains xs y) ys

  firsts_agree : (earlier later : List Attributes) → AreIn earlier → AreIn later
      → firsts_after p earlier later ≡ firsts_after q earlier later
  firsts_agree earlier [] before after = refl
  firsts_agree earlier (x ∷ later) before after =
      let In : Attributes → Type 0 = λ (y : Attributes). Contains xs y in
      let here = All-head In x later after in
      let others = All-tail In x later after in
      let with_it = All-append In earlier (x ∷ []) before (All-cons In x [] here (All-nil In)) in
      rw (
        any_agrees (λ y. p y x) (λ y. q y x) earlier (λ k d l. agree (get_or earlier k d) x (before k d l) here),
        firsts_agree earlier later before others,
        firsts_agree (earlier ++ x ∷ []) later with_it others,
      ) refl

  firsts_within : (earlier later : List Attributes) → AreIn later → AreIn (firsts_after p earlier later)
  firsts_within earlier [] all = all
  firsts_within earlier (x ∷ later) all =
      let In : Attributes → Type 0 = λ (y : Attributes). Contains xs y in
      let others = All-tail In x later all in
      elim (cases_Bool (list_any (λ y. p y x) earlier)) [
        | inl known ↦ rw known (firsts_within earlier later others)
        | inr new ↦ rw new (All-cons In x (firsts_after p (earlier ++ x ∷ []) later) (All-head In x later all)
            (firsts_within (earlier ++ x ∷ []) later others))
      ]

  groups_agree_from : (ys : List Attributes) → AreIn ys → map (λ x. filter (p x) xs) ys ≡ map (λ x. filter (q x) xs) ys
  groups_agree_from [] all = refl
  groups_agree_from (y ∷ ys) all =
      let In : Attributes → Type 0 = λ (z : Attributes). Contains xs z in
      let here = All-head In y ys all in
      rw (
        filter_agrees (p y) (q y) xs (All-members (λ (z : Attributes). p y z ≡ q y z) xs (λ z at. agree y z here at)),
        groups_agree_from ys (All-tail In y ys all),
      ) refl

  groups_agree : groups_of p xs ≡ groups_of q xs
  groups_agree =
      let all = All-members (λ (y : Attributes). Contains xs y) xs (λ y at. at) in
      groups_agree_from (firsts_after p [] xs) (firsts_within [] xs all)
      ∙ ap (λ (ys : List Attributes). map (λ x. filter (q x) xs) ys)
      (firsts_agree [] xs (All-nil (λ (y : Attributes). Contains xs y)) all)

one_grouping : (n : ℕ) (ds : List Dependency) (xs : List Attributes) (groups others : List (List Attributes))
    → AreGroups n ds xs groups → AreGroups n ds xs others → groups ≡ others
one_grouping n ds xs groups others (p, decides, is) (q, also, same) =
    is ∙ groups_agree xs p q (both_decide n ds xs p q decides also) ∙ sym same

-- ---- the merged plan
-- how it comes about: one cover, one list of groups, one list of what is left of the cover, and one list of schemes
pub one_merging : (n : ℕ) (ds : List Dependency) (nullable : Attributes) (cover others : List Dependency)
    (groups more : List (List Attributes)) (kept left : List Dependency) (all every : List Attributes)
    → AreMergedSteps n ds nullable cover groups kept all → AreMergedSteps n ds nullable others more left every
    → (cover ≡ others) × (groups ≡ more) × (kept ≡ left) × (all ≡ every)
one_merging n ds nullable cover others groups more kept left all every one other =
    let covers : cover ≡ others = one_cover n ds cover others one.fixed other.fixed in
    let grouped : AreGroups n ds (left_sides_after [] others) groups =
    subst (λ (es : List Dependency). AreGroups n ds (left_sides_after [] es) groups) covers one.grouped in
    let alike : groups ≡ more = one_grouping n ds (left_sides_after [] others) groups more grouped other.grouped in
    let from : IsThinned n (all_exchanges groups) others (all_exchanges groups ++ kept) =
    subst (λ (es : List Dependency). IsThinned n (all_exchanges groups) es (all_exchanges groups ++ kept)) covers one.thinned in
    let thinned : IsThinned n (all_exchanges more) others (all_exchanges more ++ kept) =
    subst (λ (gs : List (List Attributes)). IsThinned n (all_exchanges gs) others (all_exchanges gs ++ kept)) alike from in
    let same : kept ≡ left = append_cancel_left (all_exchanges more) kept left
    (one_thinned n (all_exchanges more) others (all_exchanges more ++ kept) (all_exchanges more ++ left) thinned other.thinned) in
    let by_kept : IsWithKey n ds nullable (map (merged_scheme left) groups) all =
    subst (λ (es : List Dependency). IsWithKey n ds nullable (map (merged_scheme es) groups) all) same one.completed in
    let completed : IsWithKey n ds nullable (map (merged_scheme left) more) all =
    subst (λ (gs : List (List Attributes)). IsWithKey n ds nullable (map (merged_scheme left) gs) all) alike by_kept in (
      covers,
      alike,
      same,
      with_key_same n ds nullable (map (merged_scheme left) more) all every completed other.completed,
    )

pub one_merged_plan : (n : ℕ) (ds : List Dependency) (nullable : Attributes) (plan other : List AttrSet)
    → IsMergedPlan n ds nullable plan → IsMergedPlan n ds nullable other → schemes_of plan ≡ schemes_of other
one_merged_plan n ds nullable plan other one two =
    kept_same one.all two.all plan other one.left two.left
    (one_merging n ds nullable one.cover two.cover one.groups two.groups one.kept two.kept (schemes_of one.all)
    (schemes_of two.all) one.steps two.steps).3
