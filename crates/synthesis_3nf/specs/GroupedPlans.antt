-- The decomposition in third normal form that is made of a cover, and how it comes about: for `synthesize`,
-- the command of that name (`desk_designs/Synthesis`) and its explanation.
use Rattle.std.specs.Prelude.{◌≡◌, ℕ, ◌⊎◌, List, [], ◌∷◌, ◌++◌, Any}
use Rattle.attr_sets.specs.Attributes.{Attributes, below}
use Rattle.attr_sets.specs.declared.set.AttrSet.{AttrSet}
use Rattle.dep_model.specs.Dependencies.{Dependency, functional_part}
use Rattle.dep_model.specs.Keys.{IsSuperkey}
use Rattle.dep_model.specs.Plans.{schemes_of}
use Rattle.min_cover.specs.Covers.{IsFixedCover}
use Rattle.primary_keys.specs.PrimaryKeys.{IsPrimaryKey}
use Rattle.plans.specs.Containing.{without_contained}
use Rattle.synthesis_3nf.specs.Groups.{schemes_of_groups}

-- some scheme is a superkey of the universe by the functional dependencies
abbrev pub HoldSuperkey : ℕ → List Dependency → List Attributes → Type 0
HoldSuperkey n ds schemes = Any (λ scheme. IsSuperkey n (functional_part ds) (below n) scheme) schemes

-- none is, and the primary key of the universe by the functional dependencies comes after them
pub record IsKeyAdded (n : ℕ) (ds : List Dependency) (nullable : Attributes) (schemes all : List Attributes)
    : Type 0 where
  pub none : HoldSuperkey n ds schemes → ⊥
  pub key : Attributes
  pub primary : IsPrimaryKey n (functional_part ds) nullable (below n) key
  pub last : all ≡ schemes ++ key ∷ []

-- the schemes, with the primary key of the universe added last where none of them is a superkey of it
abbrev pub IsWithKey : ℕ → List Dependency → Attributes → List Attributes → List Attributes → Type 0
IsWithKey n ds nullable schemes all =
    (HoldSuperkey n ds schemes × (all ≡ schemes)) ⊎ IsKeyAdded n ds nullable schemes all

-- how the grouped plan comes about: the fixed cover, and the schemes of its left sides, with the primary key
-- of the universe where none holds a key
pub record AreSynthesisSteps (n : ℕ) (ds : List Dependency) (nullable : Attributes) (cover : List Dependency)
    (all : List Attributes) : Type 0 where
  pub fixed : IsFixedCover n ds cover
  pub completed : IsWithKey n ds nullable (schemes_of_groups cover) all

-- the grouped plan: such schemes, without contained ones
pub record IsGroupedPlan (n : ℕ) (ds : List Dependency) (nullable : Attributes) (plan : List AttrSet)
    : Type 0 where
  pub cover : List Dependency
  pub all : List AttrSet
  pub steps : AreSynthesisSteps n ds nullable cover (schemes_of all)
  pub kept : plan ≡ without_contained all
