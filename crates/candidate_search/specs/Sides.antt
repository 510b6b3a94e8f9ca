-- The left sides of each right side, from the first candidates to the minimal ones. For
-- `minimal_left_sides` and the functions below it, and for the refusal of `discover` (`IsTooManyLeftSides`).
use Rattle.std.specs.Prelude.{◌≡◌, ℕ, ◌<◌, ◌≤◌, ◌⊎◌, ◌↔◌, false, List, length, map, All, AllPairs, Contains}
use Rattle.attr_sets.specs.Attributes.{Attributes, only, IsSubset, IsBefore, count_below}
use Rattle.candidate_sets.specs.Evidence.{AreEvidence}
use Rattle.candidate_sets.specs.Standing.{AreCandidates, ExceedsCandidates}
use Rattle.candidate_sets.specs.declared.refusal.TheConstants.{MOST_CANDIDATES}
use Rattle.row_groups.specs.Interning.{IsInterned}
use Rattle.row_groups.specs.declared.interning.Interned.{Interned}
use Rattle.dep_model.specs.Dependencies.{ObeysFd}
use Rattle.dep_model.specs.Plans.{schemes_of}
use Rattle.dep_model.specs.Tuples.{Relation, IsOver}
use Rattle.fd_discovery.specs.Minimal.{IsMinimalWithin}
use Rattle.candidate_search.specs.declared.side.Side.{Side}
use Rattle.candidate_search.specs.declared.side.TooManyLeftSides.{TooManyLeftSides}

-- rows of n values each, and these by their numbers
pub record AreCoded (n : ℕ) (r : Relation) (codes : Interned) : Type 0 where
  pub over : IsOver n r
  pub interned : IsInterned n r codes

-- the left sides that a side lists
abbrev pub lefts_of : Side → List Attributes
lefts_of side = schemes_of side.lefts.items

-- the right sides of a list
abbrev pub rights_of : List Side → List ℕ
rights_of sides = map (λ s. s.right) sides

-- listed evidence without a holds x
abbrev pub IsRefutedBy : List Attributes → Attributes → ℕ → Type 0
IsRefutedBy es x a = (e : Attributes) × Contains es e × (e a ≡ false) × IsSubset x e

-- rows obey x -> a, or listed evidence refutes it
abbrev pub IsAnswered : Relation → List Attributes → Attributes → ℕ → Type 0
IsAnswered r es x a = ObeysFd x (only a) r ⊎ IsRefutedBy es x a

-- the candidates of attribute a by some evidence of rows; those of fewer than `size` members are obeyed
pub record AreTested (n most : ℕ) (r : Relation) (size a : ℕ) (xs : List Attributes) : Type 0 where
  pub seen : List Attributes
  pub evidence : AreEvidence n r seen
  pub candidates : AreCandidates n most seen a xs
  pub obeyed : All (λ x. count_below x n < size → ObeysFd x (only a) r) xs

-- a side lists the candidates of its attribute by some evidence
pub record HasCandidates (n most : ℕ) (side : Side) : Type 0 where
  pub right : side.right < n
  pub within_limit : length side.lefts.items ≤ MOST_CANDIDATES
  pub seen : List Attributes
  pub candidates : AreCandidates n most seen side.right (lefts_of side)

-- the same by evidence of rows, and those of fewer than `size` members are obeyed
pub record IsTested (n most : ℕ) (r : Relation) (size : ℕ) (side : Side) : Type 0 where
  pub right : side.right < n
  pub within_limit : length side.lefts.items ≤ MOST_CANDIDATES
  pub tested : AreTested n most r size side.right (lefts_of side)

-- each left side of so many members is obeyed or refuted
abbrev pub IsAnsweredAt : ℕ → Relation → List Attributes → ℕ → Side → Type 0
IsAnsweredAt n r es size side =
    (x : Attributes) → Contains (lefts_of side) x → count_below x n ≡ size
    → IsAnswered r es x side.right

-- exactly the left sides of the minimal dependencies of rows on attribute a, of at most `most` of n
-- columns, in the order of sets
pub record AreMinimalLeftSides (n most : ℕ) (r : Relation) (a : ℕ) (xs : List Attributes) : Type 0 where
  pub exactly : (x : Attributes) → Contains xs x ↔ (IsMinimalWithin n r x a × (count_below x n ≤ most))
  pub ascending : AllPairs IsBefore xs

-- a side lists exactly those of its attribute
pub record HasMinimal (n most : ℕ) (r : Relation) (side : Side) : Type 0 where
  pub right : side.right < n
  pub minimal : AreMinimalLeftSides n most r side.right (lefts_of side)

-- some evidence of rows has too many candidates for the attribute that is named
pub record IsTooManyLeftSides (n most : ℕ) (r : Relation) (refusal : TooManyLeftSides) : Type 0 where
  pub right : refusal.right < n
  pub exceeds : ExceedsCandidates n most r refusal.right MOST_CANDIDATES
