-- Schemes of groups with a key: a lossless plan of schemes in third form that keeps the dependencies, also without contained ones.
use Rattle.std.proofs.Common.{◌≡◌, ℕ, ◌≤◌, ◌<◌, true, List, [], ◌∷◌, ◌++◌, sym, subst, ◌∙◌, ⊎_elim}
use Rattle.std.specs.Prelude.{All, Contains}
use Rattle.std.specs.List.{list_any}
use Rattle.std.proofs.lemmas.Bool.{cases_Bool, true≢false, or_right}
use Rattle.std.proofs.lemmas.List.Elements.{All-weaker, All-contains, All-contains_itself, All-map, Contains-append_left, Contains-push, Contains-push_cases}
use Rattle.std.proofs.lemmas.List.Folds.{Any-from_list_any}
use Rattle.attr_sets.specs.declared.set.TheConstants.{MOST_ATTRIBUTES}
use Rattle.attr_sets.specs.declared.set.AttrSet.{AttrSet}
use Rattle.attr_sets.specs.Attributes.{Attributes, below, IsSubset, IsEmpty}
use Rattle.attr_sets.specs.Sets.{attributes}
use Rattle.attr_sets.proofs.AttributesLemmas.{attributes_below, is_subset-true}
use Rattle.dep_model.specs.Dependencies.{Dependency, fd, functional_part, left_of, right_of, IsWithin}
use Rattle.dep_model.specs.Implication.{Implies}
use Rattle.dep_model.specs.Keys.{IsSuperkey, IsKey}
use Rattle.dep_model.specs.Forms.{IsThird}
use Rattle.dep_model.specs.Projections.{Covers, IsLossless}
use Rattle.dep_model.specs.Preservation.{KeepsDependencies}
use Rattle.dep_model.specs.Plans.{IsPlan, schemes_of}
use Rattle.dep_model.proofs.ListLemmas.{Any-from, Contains-map, map-member}
use Rattle.dep_model.proofs.KeyLemmas.{fd_on-to, superkey-from}
use Rattle.fd_closure.proofs.ClosedSets.{lead_from_superkey}
use Rattle.min_cover.specs.Covers.{IsMinimalCover}
use Rattle.primary_keys.proofs.PrimaryLemmas.{primary_is_key}
use Rattle.plans.specs.Containing.{lies_within}
use Rattle.plans.proofs.ListLemmas.{any_from, any_some}
use Rattle.synthesis_3nf.specs.Groups.{schemes_of_groups}
use Rattle.synthesis_3nf.specs.GroupedPlans.{HoldSuperkey, IsWithKey}
use Rattle.synthesis_3nf.proofs.GroupSchemes.{AreHeld, AreRules}
use Rattle.synthesis_3nf.proofs.GroupLemmas.{groups_are, groups_hold}
use Rattle.synthesis_3nf.proofs.ThirdLemmas.{fd_trans, fd_within, rules_same, implied_by_rules, group_third, key_third}
use Rattle.synthesis_3nf.proofs.LosslessLemmas.{lossless, keeps}

-- what is proved of the schemes before contained ones are dropped
pub record IsSynthesized (n : ℕ) (ds rules : List Dependency) (plan : List Attributes) : Type 0 where
  pub within : (scheme : Attributes) → Contains plan scheme → IsSubset scheme (below n)
  pub not_empty : (scheme : Attributes) → Contains plan scheme → IsEmpty scheme → ⊥
  pub third : (scheme : Attributes) → Contains plan scheme → IsThird n ds scheme
  pub held : AreHeld rules plan
  pub holder : Attributes
  pub determines : Contains plan holder × Implies n (functional_part ds) (fd holder (below n))

-- and of the schemes of the groups alone
pub record AreThirdSchemes (n : ℕ) (ds rules : List Dependency) (groups : List Attributes) : Type 0 where
  pub within : (scheme : Attributes) → Contains groups scheme → IsSubset scheme (below n)
  pub not_empty : (scheme : Attributes) → Contains groups scheme → IsEmpty scheme → ⊥
  pub third : (scheme : Attributes) → Contains groups scheme → IsThird n ds scheme
  pub held : AreHeld rules groups

module _ (n : ℕ) (ds rules : List Dependency) (attributes_not_empty : 0 < n) (are : AreRules n ds rules) where
  same : functional_part rules ≡ rules
  same = rules_same n ds rules are

  by_rules : (d : Dependency) → Implies n (functional_part ds) d → Implies n rules d
  by_rules = implied_by_rules n ds rules are

  -- the schemes of the groups, with a key
  module _ (groups : List Attributes) (grouped : AreThirdSchemes n ds rules groups) where
    -- where no group's scheme is a superkey, no key is empty
    key_not_empty : (key : Attributes) → IsSubset key (below n) → Implies n (functional_part ds) (fd key (below n)) → (HoldSuperkey n ds groups → ⊥) → IsEmpty key → ⊥
    key_not_empty key key_in determines none empty =
        let found = lead_from_superkey n rules key 0 are.within same key_in (by_rules (fd key (below n)) determines) attributes_not_empty (empty 0) in
        let group = grouped.held found.0 found.1 in
        let nothing : IsSubset key group.0 = λ (k : ℕ) m. absurd (true≢false (sym m ∙ empty k)) in
        none (Any-from (λ (scheme : Attributes). IsSuperkey n (functional_part ds) (below n) scheme) groups group.0 group.1
        (superkey-from n (functional_part ds) (below n) group.0 (grouped.within group.0 group.1)
        (fd_trans n (functional_part ds) group.0 key (below n) (fd_within n (functional_part ds) group.0 key nothing) determines)))

    of_groups : HoldSuperkey n ds groups → IsSynthesized n ds rules groups
    of_groups holds = record {
      within = grouped.within;
      not_empty = grouped.not_empty;
      third = grouped.third;
      held = grouped.held;
      holder = holds.1;
      determines = ((holds.0, holds.2, holds.3), fd_on-to n (functional_part ds) (below n) holds.1 (below n) holds.4);
    }

    of_key : (key : Attributes) → IsKey n (functional_part ds) (below n) key → (HoldSuperkey n ds groups → ⊥) → IsSynthesized n ds rules (groups ++ key ∷ [])
    of_key key is none =
        let implied = fd_on-to n (functional_part ds) (below n) key (below n) is.superkey in
        record {
          within = λ scheme has. ⊎_elim (λ old. grouped.within scheme old) (λ new. subst (λ (s : Attributes). IsSubset s (below n)) new is.superkey.within.0) (Contains-push_cases groups key scheme has);
          not_empty = λ scheme has. ⊎_elim (λ old. grouped.not_empty scheme old) (λ new. subst (λ (s : Attributes). IsEmpty s → ⊥) new (key_not_empty key is.superkey.within.0 implied none)) (Contains-push_cases groups key scheme has);
          third = λ scheme has. ⊎_elim (λ old. grouped.third scheme old) (λ new. subst (λ (s : Attributes). IsThird n ds s) new (key_third n ds key is)) (Contains-push_cases groups key scheme has);
          held = λ d has.
              let group = grouped.held d has in
              (group.0, Contains-append_left groups (key ∷ []) group.0 group.1, group.2);
          holder = key;
          determines = (Contains-push groups key, implied);
        }

    pub whole : (nullable : Attributes) (all : List Attributes) → IsWithKey n ds nullable groups all → IsSynthesized n ds rules all
    whole nullable all completed =
        ⊎_elim
        (λ holds. subst (λ (plan : List Attributes). IsSynthesized n ds rules plan) (sym holds.1) (of_groups holds.0))
        (λ added. subst (λ (plan : List Attributes). IsSynthesized n ds rules plan) (sym added.last) (of_key added.key
        (primary_is_key n (functional_part ds) nullable (below n) added.key (λ (k : ℕ) m. m) added.primary) added.none))
        completed

  -- such schemes have all attributes
  module _ (plan : List Attributes) (is : IsSynthesized n ds rules plan) where
    pub are_covering : Covers n plan
    are_covering k low =
        let not_empty : Attributes = λ j. list_any (λ (scheme : Attributes). scheme j) plan in
        ⊎_elim
        (λ has. Any-from_list_any (λ (scheme : Attributes). scheme k) plan has)
        (λ lacks.
        let some_in : IsSubset not_empty (below n) = λ (j : ℕ) m.
        let found = any_some (λ (scheme : Attributes). scheme j) plan m in
        is.within found.0 found.1 j found.2 in
        let implied : Implies n rules (fd not_empty (below n)) =
        fd_trans n rules not_empty is.holder (below n)
        (fd_within n rules not_empty is.holder (λ (j : ℕ) m. any_from (λ (scheme : Attributes). scheme j) plan is.holder is.determines.0 m))
        (by_rules (fd is.holder (below n)) is.determines.1) in
        let found = lead_from_superkey n rules not_empty k are.within same some_in implied low lacks in
        let keeper = is.held found.0 found.1 in
        absurd (found.2.beyond (λ (j : ℕ) m. any_from (λ (scheme : Attributes). scheme j) plan keeper.0 keeper.1 (keeper.2 j (or_right (left_of found.0 j) (right_of found.0 j) m)))))
        (cases_Bool (not_empty k))

    pub are_plan : IsPlan n plan
    are_plan = record {
      within = All-weaker (Contains plan) (λ (s : Attributes). IsSubset s (below n)) is.within plan (All-contains_itself plan);
      not_empty = All-weaker (Contains plan) (λ (s : Attributes). IsEmpty s → ⊥) is.not_empty plan (All-contains_itself plan);
      covers = are_covering;
    }

    pub are_lossless : IsLossless n ds plan
    are_lossless = lossless n ds rules are.same_legal are.functional plan is.held are_covering is.holder is.determines.0 is.determines.1

  -- and without contained ones they stay in third form and keep the dependencies
  module _ (all kept : List AttrSet) (is : IsSynthesized n ds rules (schemes_of all)) where
    pub kept_third : All (λ (k : AttrSet). Contains all k) kept → All (IsThird n ds) (schemes_of kept)
    kept_third among = All-map (IsThird n ds) attributes kept
        (All-weaker (λ (k : AttrSet). Contains all k) (λ (k : AttrSet). IsThird n ds (attributes k)) (λ k has. is.third (attributes k) (Contains-map attributes all k has)) kept among)

    pub kept_keeps : All (λ (s : AttrSet). list_any (lies_within s) kept ≡ true) all → KeepsDependencies n ds (schemes_of kept)
    kept_keeps held = keeps n ds rules are.same_legal are.functional (schemes_of kept) (λ d has.
        let keeper = is.held d has in
        let old = map-member attributes all keeper.0 keeper.1 in
        let found = any_some (lies_within old.0) kept (All-contains (λ (s : AttrSet). list_any (lies_within s) kept ≡ true) all old.0 held old.1) in (
          attributes found.0,
          Contains-map attributes kept found.0 found.1,
          λ (k : ℕ) m. is_subset-true (attributes old.0) (attributes found.0) (attributes_below old.0) found.2 k (subst (λ (s : Attributes). s k ≡ true) (sym old.2) (keeper.2 k m)),
        ))

-- the schemes of the groups of a minimal cover
pub cover_groups : (n : ℕ) (ds cover : List Dependency) → n ≤ MOST_ATTRIBUTES → IsMinimalCover n ds cover → All (IsWithin (below n)) cover → AreThirdSchemes n ds cover (schemes_of_groups cover)
cover_groups n ds cover within_limit minimal within = record {
  within = λ scheme has. (groups_are n within_limit cover minimal.single within scheme has).2;
  not_empty = λ scheme has empty.
      let group = (groups_are n within_limit cover minimal.single within scheme has).1 in
      true≢false (sym group.not_empty.1 ∙ empty group.first);
  third = λ scheme has.
      let group = groups_are n within_limit cover minimal.single within scheme has in
      group_third n ds cover minimal within group.0 scheme group.2 group.1;
  held = groups_hold n within_limit cover minimal.single within;
}
