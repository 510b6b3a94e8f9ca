-- What further evidence does to the candidates. For `candidate_sets`. `Desk` does not cite it.
use Rattle.std.specs.Prelude.{◌≡◌, ◌≢◌, ℕ, ◌<◌, ◌≤◌, ◌⊎◌, false, List, All, AllPairs, Contains}
use Rattle.attr_sets.specs.Attributes.{Attributes, only, union, IsSubset, IsBefore, count_below}

-- a listed set that the evidence does not hold: it stays
abbrev pub IsNotHit : List Attributes → Attributes → Attributes → Type 0
IsNotHit xs e x = Contains xs x × (IsSubset x e → ⊥)

-- a listed set that the evidence holds: it stands no more
abbrev pub IsHit : List Attributes → Attributes → Attributes → Type 0
IsHit xs e x = Contains xs x × IsSubset x e

-- y is a hit set with one of n columns outside the evidence, other than a
pub record IsGrown (n a : ℕ) (e hit : Attributes) (b : ℕ) (y : Attributes) : Type 0 where
  pub column : b < n
  pub other : b ≢ a
  pub outside : e b ≡ false
  pub is : y ≡ union hit (only b)

-- a new candidate: a hit set with one column more, at most `most` columns, that holds no kept set
pub record IsNew (n most a : ℕ) (e : Attributes) (xs : List Attributes) (y : Attributes)
    : Type 0 where
  pub hit : Attributes
  pub is_hit : IsHit xs e hit
  pub by : ℕ
  pub grown : IsGrown n a e hit by y
  pub within_limit : count_below y n ≤ most
  pub holds_none : (x : Attributes) → IsNotHit xs e x → IsSubset x y → ⊥

-- from listed candidates to the kept ones and the new ones, in the order of sets
pub record IsCandidateStep (n most a : ℕ) (e : Attributes) (xs ys : List Attributes) : Type 0 where
  pub each : All (λ y. IsNotHit xs e y ⊎ IsNew n most a e xs y) ys
  pub kept : (y : Attributes) → IsNotHit xs e y → Contains ys y
  pub new : (y : Attributes) → IsNew n most a e xs y → Contains ys y
  pub ascending : AllPairs IsBefore ys
