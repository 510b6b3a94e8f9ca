-- What a plan keeps of the functional dependencies: for `losses` and `check keeps`
-- (`desk_designs/Keeping`).
use Rattle.std.specs.Prelude.{◌≡◌, ◌⊎◌, ◌↔◌, ◌+◌, ◌<◌, ℕ, true, List, [], ◌∷◌, Any}
use Rattle.attr_sets.specs.Attributes.{Attributes, union, only, IsSubset}
use Rattle.dep_model.specs.Tuples.{Relation, IsOver}
use Rattle.dep_model.specs.Dependencies.{Dependency, fd, mvd, ObeysFd, functional_part}
use Rattle.dep_model.specs.Implication.{Implies}
use Rattle.dep_model.specs.TwoTuples.{two_tuples}
use Rattle.attr_sets.specs.Sets.{attributes}
use Rattle.preservation.specs.declared.losing.Loss.{Loss}

-- both sides of a dependency lie inside one scheme of a plan
abbrev pub IsInside : List Attributes → Attributes → Attributes → Type 0
IsInside plan x y = Any (λ (scheme : Attributes). IsSubset (union x y) scheme) plan

-- a relation over n attributes obeys each functional dependency inside a scheme that the functional
-- ones imply
pub record ObeysInside (n : ℕ) (ds : List Dependency) (plan : List Attributes) (r : Relation) : Type 0 where
  pub over : IsOver n r
  pub obeys : (x y : Attributes) → IsInside plan x y → Implies n (functional_part ds) (fd x y) → ObeysFd x y r

-- x -> y follows from the dependencies inside the schemes
abbrev pub FollowsInside : ℕ → List Dependency → List Attributes → Attributes → Attributes → Type 0
FollowsInside n ds plan x y = (r : Relation) → ObeysInside n ds plan r → ObeysFd x y r

-- attribute a follows from x by the dependencies inside the schemes
abbrev pub InKeptClosure : ℕ → List Dependency → List Attributes → Attributes → ℕ → Type 0
InKeptClosure n ds plan x a = (a < n) × FollowsInside n ds plan x (only a)

-- a relation obeys the dependencies inside the schemes, and breaks x -> y
pub record ShowsLost (n : ℕ) (ds : List Dependency) (plan : List Attributes) (x y : Attributes) (r : Relation)
    : Type 0 where
  pub inside : ObeysInside n ds plan r
  pub breaks : ObeysFd x y r → ⊥

-- a functional dependency is kept where it follows from those inside the schemes; a multivalued one is
-- passed over
abbrev pub IsPreserved : ℕ → List Dependency → List Attributes → Dependency → Type 0
IsPreserved n ds plan (fd x y) = FollowsInside n ds plan x y
IsPreserved n ds plan (mvd x y) = Unit {0}

-- a set is all that follows from x by the dependencies inside the schemes, and the two tuples that agree
-- exactly on it obey these and break x -> y
pub record AgreesOnLoss (n : ℕ) (ds : List Dependency) (plan : List Attributes) (x y agreement : Attributes)
    : Type 0 where
  pub closure : (a : ℕ) → (agreement a ≡ true) ↔ InKeptClosure n ds plan x a
  pub shows : ShowsLost n ds plan x y (two_tuples n agreement)

-- a functional dependency is lost, and the two tuples that agree exactly on a set show it
abbrev pub IsLostOn : ℕ → List Dependency → List Attributes → Dependency → Attributes → Type 0
IsLostOn n ds plan (fd x y) agreement = AgreesOnLoss n ds plan x y agreement
IsLostOn n ds plan (mvd x y) agreement = ⊥

-- the losses among dependencies that are numbered from k, in order
unfoldable pub LossesFrom : ℕ → List Dependency → List Attributes → ℕ → List Dependency → List Loss → Type 0
LossesFrom n ds plan k [] losses = losses ≡ []
LossesFrom n ds plan k (d ∷ rest) losses =
    (IsPreserved n ds plan d × LossesFrom n ds plan (k + 1) rest losses)
    ⊎ ((loss : Loss) × (more : List Loss) × (losses ≡ loss ∷ more) × (loss.dep ≡ k)
    × IsLostOn n ds plan d (attributes loss.agreement) × LossesFrom n ds plan (k + 1) rest more)

-- the given functional dependencies that a plan loses, in the order of the file
abbrev pub LossesOf : ℕ → List Dependency → List Attributes → List Loss → Type 0
LossesOf n ds plan losses = LossesFrom n ds plan 0 ds losses
