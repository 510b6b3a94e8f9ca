-- The sets that stand against evidence, and the minimal ones among them: the candidates for the
-- left sides of minimal dependencies. For `candidate_sets`, and for the refusal of `discover`.
use Rattle.std.specs.Prelude.{◌≡◌, ◌≢◌, ℕ, ◌<◌, ◌≤◌, false, List, length, All, AllPairs, Contains}
use Rattle.attr_sets.specs.Attributes.{Attributes, below, IsSubset, IsBefore, count_below}
use Rattle.dep_model.specs.Tuples.{Relation}
use Rattle.candidate_sets.specs.Evidence.{AreEvidence}

-- x stands as a left side of attribute a against evidence: none without a holds x. So no two rows were seen that
-- agree on x and differ on a
abbrev pub Stands : List Attributes → ℕ → Attributes → Type 0
Stands es a x = (e : Attributes) → Contains es e → e a ≡ false → IsSubset x e → ⊥

-- x stands, and no proper subset of it does
pub record IsMinimalStanding (es : List Attributes) (a : ℕ) (x : Attributes) : Type 0 where
  pub stands : Stands es a x
  pub minimal : (v : Attributes) → IsSubset v x → Stands es a v → IsSubset x v

-- a candidate for attribute a: a minimal standing set of at most `most` of n columns, without a
pub record IsCandidate (n most : ℕ) (es : List Attributes) (a : ℕ) (x : Attributes) : Type 0 where
  pub within : IsSubset x (below n)
  pub outside : x a ≡ false
  pub within_limit : count_below x n ≤ most
  pub minimal : IsMinimalStanding es a x

-- exactly the candidates, in the order of sets
pub record AreCandidates (n most : ℕ) (es : List Attributes) (a : ℕ) (xs : List Attributes)
    : Type 0 where
  pub each : All (IsCandidate n most es a) xs
  pub all : (x : Attributes) → IsCandidate n most es a x → Contains xs x
  pub ascending : AllPairs IsBefore xs

-- there are more than m candidates
pub record HasMoreCandidates (n most : ℕ) (es : List Attributes) (a m : ℕ) : Type 0 where
  pub sets : List Attributes
  pub each : All (IsCandidate n most es a) sets
  pub differ : AllPairs (λ x y. x ≢ y) sets
  pub more : m < length sets

-- some evidence of the rows has more than m candidates
pub record ExceedsCandidates (n most : ℕ) (r : Relation) (a m : ℕ) : Type 0 where
  pub seen : List Attributes
  pub evidence : AreEvidence n r seen
  pub exceeds : HasMoreCandidates n most seen a m
