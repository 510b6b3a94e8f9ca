-- The schemes that a synthesis makes of a cover of a schema, before contained ones are dropped.
use Rattle.std.proofs.Common.{◌≡◌, ◌≤◌, ◌<◌, List, subst}
use Rattle.std.specs.Prelude.{All, Contains}
use Rattle.std.proofs.lemmas.List.Elements.{All-weaker, All-contains_itself}
use Rattle.attr_sets.specs.declared.set.AttrSet.{AttrSet}
use Rattle.attr_sets.specs.declared.set.TheConstants.{MOST_ATTRIBUTES}
use Rattle.attr_sets.specs.Attributes.{Attributes, below, IsSubset}
use Rattle.attr_sets.specs.Sets.{attributes}
use Rattle.dep_model.specs.declared.dep.Dep.{Dep}
use Rattle.dep_model.specs.Theories.{Theory}
use Rattle.dep_model.specs.Dependencies.{IsWithin}
use Rattle.dep_model.specs.Deps.{dependencies_of, IsDepWithin}
use Rattle.dep_model.specs.Plans.{schemes_of}
use Rattle.dep_model.specs.Theories.{width_of, theory_of}
use Rattle.dep_model.proofs.DepLemmas.{dependencies_all-from}
use Rattle.dep_model.proofs.ListLemmas.{Contains-map}
use Rattle.min_cover.specs.Covers.{IsMinimalCover}
use Rattle.synthesis_3nf.specs.Groups.{schemes_of_groups}
use Rattle.synthesis_3nf.specs.GroupedPlans.{IsWithKey}
use Rattle.synthesis_3nf.proofs.GroupLemmas.{groups_are}
use Rattle.synthesis_3nf.proofs.GroupSchemes.{AreRules}
use Rattle.synthesis_3nf.proofs.ThirdLemmas.{cover_rules}
use Rattle.synthesis_3nf.proofs.CompleteLemmas.{IsSynthesized, cover_groups, whole}

-- what is known of a schema and its cover
pub record IsCovered (s : Theory) (cover : List Dep) : Type 0 where
  pub minimal : IsMinimalCover (width_of s) (theory_of s) (dependencies_of cover)
  pub within : All (IsDepWithin (below (width_of s))) cover

pub attributes_within_limit : (s : Theory) → width_of s ≤ MOST_ATTRIBUTES
attributes_within_limit s = s.valid.within_limit

pub attributes_not_empty : (s : Theory) → 0 < width_of s
attributes_not_empty s = s.valid.not_empty

pub members_within : (s : Theory) (cover : List Dep) → IsCovered s cover → All (IsWithin (below (width_of s))) (dependencies_of cover)
members_within s cover is = dependencies_all-from (IsWithin (below (width_of s))) cover is.within

-- the groups lie within the universe
pub groups_within : (s : Theory) (cover : List Dep) (groups : List AttrSet) → IsCovered s cover → schemes_of groups ≡ schemes_of_groups (dependencies_of cover) → All (λ scheme. IsSubset (attributes scheme) (below (width_of s))) groups
groups_within s cover groups is are =
    All-weaker (λ (g : AttrSet). Contains groups g) (λ (g : AttrSet). IsSubset (attributes g) (below (width_of s)))
    (λ g has. (groups_are (width_of s) (attributes_within_limit s) (dependencies_of cover) is.minimal.single (members_within s cover is) (attributes g)
    (subst (λ (xs : List Attributes). Contains xs (attributes g)) are (Contains-map attributes groups g has))).2)
    groups (All-contains_itself groups)

pub covered_rules : (s : Theory) (cover : List Dep) → IsCovered s cover → AreRules (width_of s) (theory_of s) (dependencies_of cover)
covered_rules s cover is = cover_rules (width_of s) (theory_of s) (dependencies_of cover) is.minimal (members_within s cover is)

pub synthesized : (s : Theory) (nullable : Attributes) (cover : List Dep) (all : List AttrSet) → IsCovered s cover
    → IsWithKey (width_of s) (theory_of s) nullable (schemes_of_groups (dependencies_of cover)) (schemes_of all)
    → IsSynthesized (width_of s) (theory_of s) (dependencies_of cover) (schemes_of all)
synthesized s nullable cover all is completed =
    whole (width_of s) (theory_of s) (dependencies_of cover) (attributes_not_empty s) (covered_rules s cover is)
    (schemes_of_groups (dependencies_of cover))
    (cover_groups (width_of s) (theory_of s) (dependencies_of cover) (attributes_within_limit s) is.minimal (members_within s cover is))
    nullable (schemes_of all) completed
