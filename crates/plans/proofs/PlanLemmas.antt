-- A list of `AttrSet` forms a plan exactly where the sets of attributes that it stands for do.
use Rattle.std.proofs.Common.{◌≡◌, ℕ, ◌||◌, List, [], ◌∷◌, refl, sym, ap, ◌∙◌}
use Rattle.std.specs.Prelude.{All}
use Rattle.std.specs.List.{list_any}
use Rattle.std.proofs.lemmas.List.Elements.{All-nil, All-cons, All-head, All-tail, All-map}
use Rattle.std.proofs.lemmas.List.Folds.{Any-from_list_any, list_any-from_Any}
use Rattle.attr_sets.specs.Attributes.{Attributes, below, IsSubset, IsEmpty}
use Rattle.attr_sets.specs.Sets.{attributes}
use Rattle.attr_sets.specs.declared.set.AttrSet.{AttrSet}
use Rattle.dep_model.specs.Plans.{IsPlan, schemes_of}
use Rattle.plans.specs.Schemes.{AreSchemes}

schemes_all-from : (P : Attributes → Type 0) (schemes : List AttrSet) → All P (schemes_of schemes) → All (λ (scheme : AttrSet). P (attributes scheme)) schemes
schemes_all-from P [] each = All-nil (λ (scheme : AttrSet). P (attributes scheme))
schemes_all-from P (s ∷ schemes) each =
    All-cons (λ (scheme : AttrSet). P (attributes scheme)) s schemes (All-head P (attributes s) (schemes_of schemes) each)
    (schemes_all-from P schemes (All-tail P (attributes s) (schemes_of schemes) each))

-- whether some scheme has an attribute, as `Attributes` and as `AttrSet`
pub schemes_any : (k : ℕ) (schemes : List AttrSet) → list_any (λ (scheme : Attributes). scheme k) (schemes_of schemes) ≡ list_any (λ (scheme : AttrSet). attributes scheme k) schemes
schemes_any k [] = refl
schemes_any k (s ∷ schemes) = ap (λ b. attributes s k || b) (schemes_any k schemes)

pub schemes_are_plan : (n : ℕ) (schemes : List AttrSet) → AreSchemes n schemes → IsPlan n (schemes_of schemes)
schemes_are_plan n schemes are = record {
  within = All-map (λ (scheme : Attributes). IsSubset scheme (below n)) attributes schemes are.within;
  not_empty = All-map (λ (scheme : Attributes). IsEmpty scheme → ⊥) attributes schemes are.not_empty;
  covers = λ k low. Any-from_list_any (λ (scheme : Attributes). scheme k) (schemes_of schemes) (schemes_any k schemes ∙ are.covers k low);
}

pub plan_are_schemes : (n : ℕ) (schemes : List AttrSet) → IsPlan n (schemes_of schemes) → AreSchemes n schemes
plan_are_schemes n schemes plan = record {
  within = schemes_all-from (λ (scheme : Attributes). IsSubset scheme (below n)) schemes plan.within;
  not_empty = schemes_all-from (λ (scheme : Attributes). IsEmpty scheme → ⊥) schemes plan.not_empty;
  covers = λ k low. sym (schemes_any k schemes) ∙ list_any-from_Any (λ (scheme : Attributes). scheme k) (schemes_of schemes) (plan.covers k low);
}
