-- The minimal keys of rows: for `row_keys`, and for `discover keys` (`desk_discovery/KeyDiscoveries`).
use Rattle.std.specs.Prelude.{◌≡◌, ℕ, List, All, AllPairs, Contains}
use Rattle.attr_sets.specs.Attributes.{Attributes, below, IsSubset, IsBefore}
use Rattle.candidate_sets.specs.Evidence.{IsEvidence}
use Rattle.candidate_sets.specs.Standing.{HasMoreCandidates}
use Rattle.candidate_sets.specs.declared.refusal.TheConstants.{MOST_CANDIDATES}
use Rattle.dep_model.specs.Tuples.{Tuple, Relation, AgreeOn}

-- no two different rows agree on x
abbrev pub Identifies : Relation → Attributes → Type 0
Identifies r x = (t u : Tuple) → Contains r t → Contains r u → AgreeOn x t u → t ≡ u

-- the same within n columns, and of no proper part of x
pub record IsRowKey (n : ℕ) (r : Relation) (x : Attributes) : Type 0 where
  pub within : IsSubset x (below n)
  pub identifies : Identifies r x
  pub minimal : (v : Attributes) → IsSubset v x → Identifies r v → IsSubset x v

-- exactly these, in the order of sets
pub record AreRowKeys (n : ℕ) (r : Relation) (xs : List Attributes) : Type 0 where
  pub each : All (IsRowKey n r) xs
  pub all : (x : Attributes) → IsRowKey n r x → Contains xs x
  pub ascending : AllPairs IsBefore xs

-- two different rows agree exactly on the set, within n columns
pub record IsKeyEvidence (n : ℕ) (r : Relation) (e : Attributes) : Type 0 where
  pub evidence : IsEvidence n r e
  pub differ : evidence.one ≡ evidence.other → ⊥

-- some evidence of different rows has more than a million minimal sets that lie in none of it: candidates for
-- an attribute that no evidence has, as n is none of n columns
pub record HasTooManyKeys (n : ℕ) (r : Relation) : Type 0 where
  pub seen : List Attributes
  pub evidence : All (IsKeyEvidence n r) seen
  pub exceeds : HasMoreCandidates n n seen n MOST_CANDIDATES
