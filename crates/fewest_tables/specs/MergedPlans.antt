-- The decomposition in third normal form with one scheme for all left sides that determine each
-- other, and how it comes about: for the command `synthesize fewest` (`desk_designs/FewestTables`)
-- and its explanation.
use Rattle.std.specs.Prelude.{◌≡◌, ℕ, Bool, not, ◌&&◌, nat_lt, if◌then◌else◌, List, [], ◌++◌, map, filter, length}
use Rattle.std.specs.List.{list_any}
use Rattle.attr_sets.specs.Attributes.{Attributes}
use Rattle.attr_sets.specs.Sets.{is_same}
use Rattle.attr_sets.specs.declared.set.AttrSet.{AttrSet}
use Rattle.dep_model.specs.Dependencies.{Dependency, left_of, right_of}
use Rattle.dep_model.specs.Plans.{schemes_of}
use Rattle.min_cover.specs.Covers.{IsFixedCover, IsThinned}
use Rattle.plans.specs.Containing.{without_contained}
use Rattle.synthesis_3nf.specs.GroupedPlans.{IsGroupedPlan, IsWithKey}
use Rattle.synthesis_3nf.specs.Groups.{group_scheme, left_sides_after}
use Rattle.fewest_tables.specs.Alike.{AreGroups, all_exchanges}

-- the scheme of a group: its left sides, and what the dependencies of the list with these determine
abbrev pub merged_scheme : List Dependency → List Attributes → Attributes
merged_scheme ds group k = list_any (λ x. group_scheme ds x k) group

-- how the merged plan comes about: the fixed cover; its left sides in groups; what is left of the
-- cover where, from the first member to the last, each is left out that the others imply together
-- with what is alike; and the schemes of the groups, with the primary key of the universe where
-- none holds a key
pub record AreMergedSteps (n : ℕ) (ds : List Dependency) (nullable : Attributes) (cover : List Dependency)
    (groups : List (List Attributes)) (kept : List Dependency) (all : List Attributes) : Type 0 where
  pub fixed : IsFixedCover n ds cover
  pub grouped : AreGroups n ds (left_sides_after [] cover) groups
  pub thinned : IsThinned n (all_exchanges groups) cover (all_exchanges groups ++ kept)
  pub completed : IsWithKey n ds nullable (map (merged_scheme kept) groups) all

-- the merged plan: such schemes, without contained ones
pub record IsMergedPlan (n : ℕ) (ds : List Dependency) (nullable : Attributes) (plan : List AttrSet)
    : Type 0 where
  pub cover : List Dependency
  pub groups : List (List Attributes)
  pub kept : List Dependency
  pub all : List AttrSet
  pub steps : AreMergedSteps n ds nullable cover groups kept (schemes_of all)
  pub left : plan ≡ without_contained all

-- the second of two plans where it has fewer schemes, and else the first
abbrev pub smaller : List AttrSet → List AttrSet → List AttrSet
smaller first second = if nat_lt (length second) (length first) then second else first

-- the plan with the fewest schemes: the merged plan, unless the grouped one of `synthesize` has
-- fewer
pub record IsFewestPlan (n : ℕ) (ds : List Dependency) (nullable : Attributes) (plan : List AttrSet)
    : Type 0 where
  pub merged : List AttrSet
  pub is_merged : IsMergedPlan n ds nullable merged
  pub grouped : List AttrSet
  pub is_grouped : IsGroupedPlan n ds nullable grouped
  pub chosen : plan ≡ smaller merged grouped

-- whether two dependencies have the same sides
abbrev pub has_same_sides : Dependency → Dependency → Bool
has_same_sides d e = is_same (left_of d) (left_of e) && is_same (right_of d) (right_of e)

-- whether a dependency is one of a list
abbrev pub is_among : List Dependency → Dependency → Bool
is_among ds d = list_any (λ e. has_same_sides e d) ds

-- the members of a cover that were left out
abbrev pub left_out : List Dependency → List Dependency → List Dependency
left_out kept cover = filter (λ d. not (is_among kept d)) cover
