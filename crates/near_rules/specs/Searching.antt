-- The dependencies that were found so far, and how many sets were tried for each right side: for the functions
-- below `near_rules`. `Desk` does not cite it.
use Rattle.std.specs.Prelude.{◌≡◌, ◌≢◌, ◌<◌, ◌≤◌, ℕ, false, List, length, take, All, AllPairs, Contains}
use Rattle.attr_sets.specs.Attributes.{Attributes, below, only, IsSubset, count_below}
use Rattle.attr_sets.specs.declared.set.TheConstants.{MOST_ATTRIBUTES}
use Rattle.row_groups.specs.Interning.{IsInterned, firsts_of, groups_of}
use Rattle.row_groups.specs.Numberings.{AreFirsts, AreGroups, number_at}
use Rattle.row_groups.specs.declared.groups.Groups.{Groups}
use Rattle.dep_model.specs.Dependencies.{Dependency, fd}
use Rattle.dep_model.specs.Deps.{dependencies_of}
use Rattle.dep_model.specs.Tuples.{Relation}
use Rattle.fd_discovery.specs.Minimal.{Precedes}
use Rattle.fd_discovery.specs.Searching.{IsListedFrom, IsTried}
use Rattle.near_rules.specs.NearRules.{AreErrors, ExceedsTried, IsMinimalNear, IsNear, MustBeTried}
use Rattle.near_rules.specs.declared.found.Found.{Found}
use Rattle.near_rules.specs.declared.found.Sought.{Sought}
use Rattle.near_rules.specs.declared.found.TheConstants.{MOST_TRIED}
use Rattle.near_rules.specs.declared.found.TooManyTried.{TooManyTried}

-- rows are those in which is searched, with the first of them for themselves, and the right sides are columns
pub record AreSought (r : Relation) (s : Sought) : Type 0 where
  pub interned : IsInterned s.width r s.codes
  pub front : (count : ℕ) × (count ≤ length r) × IsInterned s.width (take count r) s.front
  pub width : s.width ≤ MOST_ATTRIBUTES
  pub rights : s.rights ≤ s.width

-- rows by what they have on a set
pub record AreGrouped (r : Relation) (x : Attributes) (groups : Groups) : Type 0 where
  pub by_set : AreGroups r x (groups_of groups)
  pub firsts : AreFirsts (groups_of groups) (firsts_of groups)

-- near, minimal and to be tried, as it is searched
abbrev pub IsSoughtNear : Sought → Relation → Attributes → ℕ → Type 0
IsSoughtNear s r x a = IsNear s.width s.limit r x a

-- a listed dependency is a minimal one that was tried before y -> b
abbrev pub IsNearFoundBefore : Sought → Relation → Attributes → ℕ → Dependency → Type 0
IsNearFoundBefore s r y b d =
    (x : Attributes) × (a : ℕ) × (d ≡ fd x (only a)) × IsMinimalNear s.width s.most s.limit r x a × IsTried y b x a

-- the sets that had to be tried for a and came before y -> b
pub record AreTriedFor (s : Sought) (r : Relation) (y : Attributes) (b a count : ℕ) : Type 0 where
  pub sets : List Attributes
  pub each : All (λ x. MustBeTried s.width s.most s.limit r x a × IsTried y b x a) sets
  pub all : (x : Attributes) → MustBeTried s.width s.most s.limit r x a → IsTried y b x a → Contains sets x
  pub differ : AllPairs (λ x z. x ≢ z) sets
  pub size : length sets ≡ count

-- what was tried before y -> b: the minimal dependencies, which give all that is near, and how many sets
pub record AreNearFoundBefore (s : Sought) (r : Relation) (y : Attributes) (b : ℕ) (found : Found) : Type 0 where
  pub each : All (IsNearFoundBefore s r y b) (dependencies_of found.deps.items)
  pub ascending : AllPairs Precedes (dependencies_of found.deps.items)
  pub given : (x : Attributes) (a : ℕ) → IsSubset x (below s.width) → count_below x s.width ≤ s.most → a < s.rights
      → x a ≡ false → IsTried y b x a → IsSoughtNear s r x a → IsListedFrom (dependencies_of found.deps.items) x a
  pub errors : AreErrors s.width r (dependencies_of found.deps.items) found.errors.items
  pub one_each : length found.tried.items ≡ s.rights
  pub within_limit : (a : ℕ) → a < s.rights → number_at found.tried.items a ≤ MOST_TRIED
  pub tried : (a : ℕ) → a < s.rights → AreTriedFor s r y b a (number_at found.tried.items a)

-- the same, where all right sides of y were tried
abbrev pub AreNearFoundUpTo : Sought → Relation → Attributes → Found → Type 0
AreNearFoundUpTo s r y found = AreNearFoundBefore s r y s.rights found

-- one of the right sides has too many sets to try
pub record IsTooManyTried (s : Sought) (r : Relation) (refusal : TooManyTried) : Type 0 where
  pub right : refusal.right < s.rights
  pub exceeds : ExceedsTried s.width s.most s.limit r refusal.right
