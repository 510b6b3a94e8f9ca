-- A plan without one scheme that lies within another of its schemes is still a plan, and lossless where it was.
use Rattle.std.proofs.Common.{◌≡◌, ℕ, true, List, [], ◌∷◌, ◌++◌, sym, subst, ◌⊎◌, inl, inr, ⊎_elim}
use Rattle.std.specs.Prelude.{All, Contains}
use Rattle.std.specs.List.{list_any}
use Rattle.std.proofs.lemmas.List.{map-append}
use Rattle.std.proofs.lemmas.List.Elements.{All-nil, All-weaker, All-contains, All-contains_itself, Contains-append_left, Contains-append_right, Contains-append_cases, Contains-push_cases}
use Rattle.attr_sets.specs.Attributes.{Attributes, below, IsSubset, IsEmpty}
use Rattle.attr_sets.specs.Sets.{attributes}
use Rattle.attr_sets.specs.declared.set.AttrSet.{AttrSet}
use Rattle.attr_sets.proofs.AttributesLemmas.{attributes_below, is_subset-true}
use Rattle.dep_model.specs.Dependencies.{Dependency}
use Rattle.dep_model.specs.Projections.{IsLossless}
use Rattle.dep_model.specs.Plans.{schemes_of}
use Rattle.dep_model.proofs.ListLemmas.{Contains-map}
use Rattle.dep_model.proofs.JoinLemmas.{contained_dropped}
use Rattle.plans.specs.Schemes.{AreSchemes}
use Rattle.plans.specs.Containing.{lies_within}
use Rattle.plans.proofs.ListLemmas.{any_from, any_some}

-- what holds of each member of a list holds of each member of a part of it
All-sublist : (P : AttrSet → Type 0) (xs ys : List AttrSet) → ((y : AttrSet) → Contains ys y → Contains xs y) → All P xs → All P ys
All-sublist P xs ys part each = All-weaker (Contains ys) P (λ y has. All-contains P xs y each (part y has)) ys (All-contains_itself ys)

-- the members beside one
Contains-insert : (before later : List AttrSet) (x y : AttrSet) → Contains (before ++ later) y → Contains (before ++ x ∷ later) y
Contains-insert before later x y has =
    ⊎_elim
    (λ near. Contains-append_left before (x ∷ later) y near)
    (λ far. Contains-append_right before (x ∷ later) y (Contains-append_right (x ∷ []) later y far))
    (Contains-append_cases before later y has)

-- a member is one of those beside, or the one
Contains-insert_cases : (before later : List AttrSet) (x y : AttrSet) → Contains (before ++ x ∷ later) y → Contains (before ++ later) y ⊎ (x ≡ y)
Contains-insert_cases before later x y has =
    ⊎_elim
    (λ near. inl (Contains-append_left before later y near))
    (λ far.
    ⊎_elim
    (λ here. ⊎_elim (λ nowhere. inl (absurd (nothing y nowhere))) (λ same. inr same) (Contains-push_cases [] x y here))
    (λ later_on. inl (Contains-append_right before later y later_on))
    (Contains-append_cases (x ∷ []) later y far))
    (Contains-append_cases before (x ∷ later) y has)
  where
    nothing : (y : AttrSet) → Contains {X = AttrSet} [] y → ⊥
    nothing y has = All-contains (λ (z : AttrSet). ⊥) [] y (All-nil (λ (z : AttrSet). ⊥)) has

pub schemes_dropped : (n : ℕ) (before later : List AttrSet) (x : AttrSet) → list_any (lies_within x) (before ++ later) ≡ true → AreSchemes n (before ++ x ∷ later) → AreSchemes n (before ++ later)
schemes_dropped n before later x held are = record {
  within = All-sublist (λ (s : AttrSet). IsSubset (attributes s) (below n)) (before ++ x ∷ later) (before ++ later) (Contains-insert before later x) are.within;
  not_empty = All-sublist (λ (s : AttrSet). IsEmpty (attributes s) → ⊥) (before ++ x ∷ later) (before ++ later) (Contains-insert before later x) are.not_empty;
  covers = λ k low.
      let found = any_some (λ s. attributes s k) (before ++ x ∷ later) (are.covers k low) in
      let holder = any_some (lies_within x) (before ++ later) held in
      ⊎_elim
      (λ other. any_from (λ s. attributes s k) (before ++ later) found.0 other found.2)
      (λ same. any_from (λ s. attributes s k) (before ++ later) holder.0 holder.1
      (is_subset-true (attributes x) (attributes holder.0) (attributes_below x) holder.2 k (subst (λ (s : AttrSet). attributes s k ≡ true) (sym same) found.2)))
      (Contains-insert_cases before later x found.0 found.1);
}

pub lossless_dropped : (n : ℕ) (ds : List Dependency) (before later : List AttrSet) (x : AttrSet) → list_any (lies_within x) (before ++ later) ≡ true → IsLossless n ds (schemes_of (before ++ x ∷ later)) → IsLossless n ds (schemes_of (before ++ later))
lossless_dropped n ds before later x held lossless =
    let holder = any_some (lies_within x) (before ++ later) held in
    subst (λ (plan : List Attributes). IsLossless n ds plan) (sym (map-append attributes before later))
    (contained_dropped n ds (schemes_of before) (schemes_of later) (attributes x) (attributes holder.0)
    (subst (λ (plan : List Attributes). Contains plan (attributes holder.0)) (map-append attributes before later) (Contains-map attributes (before ++ later) holder.0 holder.1))
    (is_subset-true (attributes x) (attributes holder.0) (attributes_below x) holder.2)
    (subst (λ (plan : List Attributes). IsLossless n ds plan) (map-append attributes before (x ∷ later)) lossless))
