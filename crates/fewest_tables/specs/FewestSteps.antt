-- The steps to a merged plan, as the code has them: for `fewest_steps`, and what is made of them.
-- `Desk` does not cite it.
use Rattle.std.specs.Prelude.{◌≡◌, ℕ, Bool, if◌then◌else◌, List, [], ◌∷◌, map, filter, All}
use Rattle.std.specs.List.{list_any, flat_map}
use Rattle.attr_sets.specs.Attributes.{Attributes, below}
use Rattle.attr_sets.specs.Sets.{attributes, is_same}
use Rattle.dep_model.specs.Dependencies.{Dependency, fd}
use Rattle.dep_model.specs.Deps.{dependencies_of, IsDepWithin}
use Rattle.dep_model.specs.Plans.{schemes_of}
use Rattle.fd_closure.specs.declared.known.KnownClosure.{KnownClosure}
use Rattle.min_cover.specs.Covers.{IsMinimalCover}
use Rattle.synthesis_3nf.specs.GroupedPlans.{AreSynthesisSteps}
use Rattle.synthesis_3nf.specs.Groups.{left_sides_after}
use Rattle.fewest_tables.specs.declared.grouping.Grouping.{Grouping}
use Rattle.fewest_tables.specs.declared.steps.FewestSteps.{FewestSteps}
use Rattle.fewest_tables.specs.MergedPlans.{AreMergedSteps}

-- ---- sets whose closures are known
abbrev pub set_of : KnownClosure → Attributes
set_of one = attributes one.of

abbrev pub sets_of : List KnownClosure → List Attributes
sets_of known = map set_of known

-- whether two have the same closure
abbrev pub same_closure : KnownClosure → KnownClosure → Bool
same_closure one other = is_same (attributes one.closed) (attributes other.closed)

-- the sets of a list that have the closure of one
abbrev pub group_with : List KnownClosure → KnownClosure → List Attributes
group_with known one = sets_of (filter (same_closure one) known)

-- the groups of the code
abbrev pub groups_in : Grouping → List (List Attributes)
groups_in groups = map (group_with groups.lefts.items) groups.firsts.items

-- ---- what is alike
-- all attributes of the sets of a list
abbrev pub union_of : List Attributes → Attributes
union_of sets k = list_any (λ (x : Attributes). x k) sets

-- a set of a group determines all of the group, where it is not all of it
abbrev pub shared_exchange : Attributes → Attributes → List Dependency
shared_exchange together x = if is_same x together then [] else fd x together ∷ []

-- each set of a group does
abbrev pub shared_exchanges : List Attributes → List Dependency
shared_exchanges group = flat_map (shared_exchange (union_of group)) group

-- ---- the steps
-- the steps of the code are those of `synthesize` and those of the merged plan
pub record AreFewestSteps (n : ℕ) (ds : List Dependency) (nullable : Attributes) (steps : FewestSteps)
    : Type 0 where
  pub plain : AreSynthesisSteps n ds nullable (dependencies_of steps.plain.cover.items)
      (schemes_of steps.plain.schemes.items)
  pub lefts : schemes_of steps.plain.lefts.items ≡ left_sides_after [] (dependencies_of steps.plain.cover.items)
  pub minimal : IsMinimalCover n ds (dependencies_of steps.plain.cover.items)
  pub within : All (IsDepWithin (below n)) steps.plain.cover.items
  pub merged : AreMergedSteps n ds nullable (dependencies_of steps.plain.cover.items) (groups_in steps.groups)
      (dependencies_of steps.kept.items) (schemes_of steps.schemes.items)
