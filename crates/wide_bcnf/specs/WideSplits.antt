-- The decomposition by pairs in Boyce-Codd form: for `split_wide`, the laws of wide_bcnf and `split
-- wide-bcnf` (`desk_designs/Decompositions`).
use Rattle.std.specs.Prelude.{◌≡◌, ℕ, ◌⊎◌, zero, suc, List, [], ◌∷◌}
use Rattle.attr_sets.specs.declared.set.AttrSet.{AttrSet}
use Rattle.attr_sets.specs.Attributes.{Attributes, below, only, difference}
use Rattle.dep_model.specs.Dependencies.{Dependency}
use Rattle.dep_model.specs.Plans.{schemes_of}
use Rattle.plans.specs.Containing.{without_contained}
use Rattle.wide_bcnf.specs.Pairs.{HasPair, IsFirstPair}

-- q is what is left of p once the second attribute of its first pair is left out; a is the first one
pub record ShrinksBy (n : ℕ) (ds : List Dependency) (p q : Attributes) (a : ℕ) : Type 0 where
  pub second : ℕ
  pub pair : IsFirstPair n ds p a second
  pub rest : q ≡ difference p (only second)

-- a scheme shrinks to q by this many such steps
abbrev pub ShrinksTo : ℕ → List Dependency → ℕ → Attributes → Attributes → Type 0
ShrinksTo n ds zero scheme q = q ≡ scheme
ShrinksTo n ds (suc k) scheme q = (p : Attributes) × ShrinksTo n ds k scheme p × ((a : ℕ) × ShrinksBy n ds p q a)

-- the core of a scheme that has a pair: what it shrinks to when such steps are made until no pair is left;
-- a is the first attribute of the pair of the last step
pub record IsCore (n : ℕ) (ds : List Dependency) (scheme q : Attributes) (a : ℕ) : Type 0 where
  pub steps : ℕ
  pub before : Attributes
  pub shrinks : ShrinksTo n ds steps scheme before
  pub last : ShrinksBy n ds before q a
  pub ends : HasPair n ds q → ⊥

-- the wide split of a scheme: the scheme alone where it has no pair; otherwise its core, and then the wide
-- split of what is left of the scheme without the first attribute of the last pair
abbrev pub IsWideSplitOf : ℕ → List Dependency → Attributes → List Attributes → Type 0
IsWideSplitOf n ds scheme [] = ⊥
IsWideSplitOf n ds scheme (q ∷ later) =
    ((HasPair n ds scheme → ⊥) × (q ≡ scheme) × (later ≡ []))
    ⊎ ((a : ℕ) × IsCore n ds scheme q a × IsWideSplitOf n ds (difference scheme (only a)) later)

-- the plan of a wide split of the universe: its schemes, without contained ones
pub record IsWideSplitPlan (n : ℕ) (ds : List Dependency) (plan : List AttrSet) : Type 0 where
  pub all : List AttrSet
  pub split : IsWideSplitOf n ds (below n) (schemes_of all)
  pub kept : plan ≡ without_contained all
