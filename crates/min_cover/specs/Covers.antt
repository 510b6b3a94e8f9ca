-- Minimal covers and whole covers, and the ones that a fixed order leaves: for `minimal_cover`,
-- `whole_cover`, `synthesize` and the command `cover` (`desk_covers/Covering`).
use Rattle.std.specs.Prelude.{◌≡◌, ℕ, ◌⊎◌, ◌↔◌, true, false, not, List, [], ◌∷◌, ◌++◌, filter, All, Contains}
use Rattle.std.specs.List.{AllZip, flat_map}
use Rattle.attr_sets.specs.Attributes.{Attributes, only, difference}
use Rattle.dep_model.specs.Tuples.{Relation}
use Rattle.dep_model.specs.Dependencies.{Dependency, fd, is_fd, functional_part, left_of, right_of}
use Rattle.dep_model.specs.Implication.{IsLegal, Implies}
use Rattle.min_cover.specs.Members.{members_of, IsLeftReducedDependency}

-- what is left where, from the first dependency to the last, each is left out exactly where those kept
-- before it together with all after it imply it
abbrev pub IsThinned : ℕ → List Dependency → List Dependency → List Dependency → Type 0
IsThinned n kept [] rest = rest ≡ kept
IsThinned n kept (d ∷ later) rest =
    (Implies n (kept ++ later) d × IsThinned n kept later rest)
    ⊎ ((Implies n (kept ++ later) d → ⊥) × IsThinned n (kept ++ d ∷ []) later rest)

-- the fixed cover: the members of the functional dependencies, in order, each with its left side
-- shortened, without those that the others imply
pub record IsFixedCover (n : ℕ) (ds cover : List Dependency) : Type 0 where
  pub members : List Dependency
  pub shortened : AllZip (IsLeftReducedDependency n ds) (flat_map (members_of n) ds) members
  pub thinned : IsThinned n [] members cover

-- the multivalued dependencies of a list
abbrev pub multivalued_part : List Dependency → List Dependency
multivalued_part ds = filter (λ d. not (is_fd d)) ds

-- the fixed whole cover: the fixed cover, and the multivalued dependencies without those that the
-- others and the cover imply
pub record IsFixedWholeCover (n : ℕ) (ds whole : List Dependency) : Type 0 where
  pub cover : List Dependency
  pub fixed : IsFixedCover n ds cover
  pub thinned : IsThinned n cover (multivalued_part ds) whole

-- the same relations are legal for two lists
abbrev pub HaveSameLegal : ℕ → List Dependency → List Dependency → Type 0
HaveSameLegal n ds es = (r : Relation) → IsLegal n ds r ↔ IsLegal n es r

-- a functional dependency with one attribute on the right
abbrev pub IsSingle : Dependency → Type 0
IsSingle d = (x : Attributes) × (a : ℕ) × (d ≡ fd x (only a))

-- a minimal cover of the functional dependencies of a list
pub record IsMinimalCover (n : ℕ) (ds cover : List Dependency) : Type 0 where
  pub single : All IsSingle cover
  pub same_legal : HaveSameLegal n cover (functional_part ds)
  -- no member follows from the others
  pub needed : (before after : List Dependency) (d : Dependency) → cover ≡ before ++ d ∷ after
      → Implies n (before ++ after) d → ⊥
  -- no attribute of a left side can be left out
  pub short : (d : Dependency) → Contains cover d → (i : ℕ) → left_of d i ≡ true
      → Implies n (functional_part ds) (fd (difference (left_of d) (only i)) (right_of d)) → ⊥

-- a list that says the same as another, and none of whose multivalued dependencies follows from the
-- rest
pub record IsWholeCover (n : ℕ) (ds whole : List Dependency) : Type 0 where
  pub same_legal : HaveSameLegal n whole ds
  pub needed : (before after : List Dependency) (d : Dependency) → whole ≡ before ++ d ∷ after
      → is_fd d ≡ false → Implies n (before ++ after) d → ⊥
