-- Evidence: what two rows agree on and nothing beside it, the agree sets of Mannila and Räihä
-- (1994). For the search for the functional dependencies of rows, and for the refusal of `discover`
-- (`desk_discovery/Discoveries`).
use Rattle.std.specs.Prelude.{ℕ, ◌-◌, ◌^◌, ◌&&◌, List, length, All, Contains, nat_lt, nat_eq}
use Rattle.std.specs.Cmp.Lexicographic.{pointwise}
use Rattle.attr_sets.specs.Attributes.{Attributes, below, IsSubset}
use Rattle.dep_model.specs.Tuples.{Tuple, Relation, AgreeExactly, value_at}

-- two of the rows agree exactly on the set, within n columns
pub record IsEvidence (n : ℕ) (r : Relation) (e : Attributes) : Type 0 where
  pub within : IsSubset e (below n)
  pub one : Tuple
  pub other : Tuple
  pub one_row : Contains r one
  pub other_row : Contains r other
  pub agree : AgreeExactly n e one other

-- each set of a list is evidence
abbrev pub AreEvidence : ℕ → Relation → List Attributes → Type 0
AreEvidence n r es = All (IsEvidence n r) es

-- the columns on which two rows agree
abbrev pub agreement : ℕ → Tuple → Tuple → Attributes
agreement n t u k = nat_lt k n && pointwise nat_eq (value_at t k) (value_at u k)

-- how many sets of n columns a list of different ones still lacks
abbrev pub room : ℕ → List Attributes → ℕ
room n es = 2 ^ n - length es
