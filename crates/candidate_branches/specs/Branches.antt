-- The search for the candidates of given evidence by branches: sets with the evidence that holds them, and that which
-- lacks one member. For the functions below `candidates_of`. `Desk` does not cite it.
use Rattle.std.specs.Prelude.{◌≡◌, ℕ, ◌+◌, ◌^◌, ◌<◌, ◌⊎◌, ◌++◌, Bool, true, false, not, List, [], ◌∷◌, filter, All}
use Rattle.std.specs.Prelude.{AllPairs, Any, Contains}
use Rattle.attr_sets.specs.Attributes.{Attributes, IsBefore, IsSubset, below, count_below, difference, only, union}
use Rattle.attr_sets.specs.Sets.{attributes}
use Rattle.attr_sets.specs.declared.set.AttrSet.{AttrSet}
use Rattle.attr_sets.specs.declared.set.TheConstants.{MOST_ATTRIBUTES}
use Rattle.dep_model.specs.Plans.{schemes_of}
use Rattle.candidate_sets.specs.Standing.{IsCandidate}
use Rattle.candidate_branches.specs.declared.branch.Branch.{Branch}

abbrev pub has_column : ℕ → AttrSet → Bool
has_column k s = attributes s k

abbrev pub lacks_column : ℕ → AttrSet → Bool
lacks_column k s = not (attributes s k)

-- the number of a set fits
abbrev pub HasNumber : AttrSet → Type 0
HasNumber s = s.0 < 2 ^ MOST_ATTRIBUTES

-- some listed set has a column and lacks k
abbrev pub IsWitnessed : List Attributes → ℕ → ℕ → Type 0
IsWitnessed es column k = (e : Attributes) × Contains es e × (e column ≡ true) × (e k ≡ false)

-- k is the one member of x that e lacks
pub record LacksAlone (x e : Attributes) (k : ℕ) : Type 0 where
  pub member : x k ≡ true
  pub lacks : e k ≡ false
  pub rest : IsSubset (difference x (only k)) e

-- exactly the listed evidence that holds x
pub record AreHolding (es : List Attributes) (x : Attributes) (held : List Attributes) : Type 0 where
  pub each : (e : Attributes) → Contains held e → Contains es e × IsSubset x e
  pub all : (e : Attributes) → Contains es e → IsSubset x e → Contains held e

-- exactly the listed evidence that lacks one member of x alone
pub record AreLackingOne (es : List Attributes) (x : Attributes) (once : List Attributes) : Type 0 where
  pub each : (e : Attributes) → Contains once e → Contains es e × ((k : ℕ) × LacksAlone x e k)
  pub all : (e : Attributes) (k : ℕ) → Contains es e → LacksAlone x e k → Contains once e

-- a branch by evidence without a: a set within n columns without a, which may take on as many free columns as a
-- candidate may have beside its members; with the evidence that holds it, and that which lacks one member.
-- Each member is needed
pub record IsBranchWith (n most a : ℕ) (es : List Attributes) (set free : Attributes) (left : ℕ)
    (held once : List Attributes) : Type 0 where
  pub without : (e : Attributes) → Contains es e → e a ≡ false
  pub set_within : IsSubset set (below n)
  pub set_without : set a ≡ false
  pub free_within : IsSubset free (below n)
  pub free_without : free a ≡ false
  pub room : count_below set n + left ≡ most
  pub holding : AreHolding es set held
  pub lacking : AreLackingOne es set once
  pub needed : (k : ℕ) → set k ≡ true → (e : Attributes) × Contains es e × LacksAlone set e k

abbrev pub IsBranch : ℕ → ℕ → ℕ → List Attributes → Branch → Type 0
IsBranch n most a es branch =
    IsBranchWith n most a es (attributes branch.set) (attributes branch.free) branch.left (schemes_of branch.held.items)
    (schemes_of branch.once.items)

-- a candidate that has a set, and beside it free columns alone
pub record IsAboveSet (n most a : ℕ) (es : List Attributes) (set free x : Attributes) : Type 0 where
  pub candidate : IsCandidate n most es a x
  pub from : IsSubset set x
  pub to : IsSubset x (union set free)

-- one that a branch may come to
abbrev pub IsAbove : ℕ → ℕ → ℕ → List Attributes → Attributes → Branch → Type 0
IsAbove n most a es x branch = IsAboveSet n most a es (attributes branch.set) (attributes branch.free) x

-- branches in which each candidate above a branch is found
pub record AreAbove (n most a : ℕ) (es : List Attributes) (branch : Branch) (above : List Branch) : Type 0 where
  pub each : All (IsBranch n most a es) above
  pub all : (x : Attributes) → IsAbove n most a es x branch → Any (IsAbove n most a es x) above

-- the branch of one column more, with these free columns
pub record IsChild (branch : Branch) (column : ℕ) (free : Attributes) (child : Branch) : Type 0 where
  pub set : attributes child.set ≡ union (attributes branch.set) (only column)
  pub frees : attributes child.free ≡ free
  pub left : child.left + 1 ≡ branch.left
  pub held : child.held.items ≡ filter (has_column column) branch.held.items
  pub once : child.once.items
      ≡ filter (has_column column) branch.once.items ++ filter (lacks_column column) branch.held.items

-- each member of a set is lacked by listed evidence that has a column
abbrev pub IsEachLacked : List Attributes → Attributes → ℕ → Type 0
IsEachLacked once set column = (k : ℕ) → set k ≡ true → IsWitnessed once column k

-- this branch was added, where each member of the set is lacked so; else nothing was
abbrev pub AddsChild : Branch → ℕ → Attributes → List Branch → List Branch → Type 0
AddsChild branch column free old new =
    (IsEachLacked (schemes_of branch.once.items) (attributes branch.set) column
    × ((child : Branch) × IsChild branch column free child × (new ≡ old ++ child ∷ [])))
    ⊎ ((IsEachLacked (schemes_of branch.once.items) (attributes branch.set) column → ⊥) × (new ≡ old))

-- the candidates above a branch were added to a list, and candidates alone
pub record AddsAbove (n most a : ℕ) (es : List Attributes) (branch : Branch) (old new : List Attributes) : Type 0 where
  pub each : (x : Attributes) → Contains new x → Contains old x ⊎ IsCandidate n most es a x
  pub kept : (x : Attributes) → Contains old x → Contains new x
  pub all : (x : Attributes) → IsAbove n most a es x branch → Contains new x

-- candidates, among them all above a branch, in the order of sets
pub record AreAllAbove (n most a : ℕ) (es : List Attributes) (branch : Branch) (xs : List Attributes) : Type 0 where
  pub each : All (IsCandidate n most es a) xs
  pub all : (x : Attributes) → IsAbove n most a es x branch → Contains xs x
  pub ascending : AllPairs IsBefore xs
