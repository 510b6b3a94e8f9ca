-- Canonical covers, and the one that the fixed whole cover gives: for `canonical_cover` and the commands
-- `cover canonical` and `check cover canonical`.
use Rattle.std.specs.Prelude.{◌≡◌, ℕ, true, List, ◌∷◌, ◌++◌, All, AllPairs, Contains}
use Rattle.attr_sets.specs.Attributes.{Attributes, only, difference, IsEmpty}
use Rattle.dep_model.specs.Dependencies.{Dependency, fd, is_fd, functional_part, left_of, right_of}
use Rattle.dep_model.specs.Implication.{Implies}
use Rattle.min_cover.specs.Covers.{HaveSameLegal, IsFixedWholeCover}
use Rattle.canonical_cover.specs.Merging.{merge_left_sides}

-- a canonical cover of the functional dependencies of a list
pub record IsCanonicalCover (n : ℕ) (ds cover : List Dependency) : Type 0 where
  pub functional : All (λ d. is_fd d ≡ true) cover
  pub same_legal : HaveSameLegal n cover (functional_part ds)
  -- each left side stands once
  pub once : AllPairs (λ d e. left_of d ≡ left_of e → ⊥) cover
  -- with something on the right
  pub some_right : All (λ d. IsEmpty (right_of d) → ⊥) cover
  -- no attribute of a left side can be left out
  pub short_left : (d : Dependency) → Contains cover d → (i : ℕ) → left_of d i ≡ true
      → Implies n (functional_part ds) (fd (difference (left_of d) (only i)) (right_of d)) → ⊥
  -- nor one of a right side: without it on the right it would not follow from the left side
  pub short_right : (before after : List Dependency) (x y : Attributes) (i : ℕ)
      → cover ≡ before ++ fd x y ∷ after → y i ≡ true
      → Implies n (before ++ fd x (difference y (only i)) ∷ after) (fd x (only i)) → ⊥

-- the fixed canonical cover: the fixed whole cover with each left side once
pub record IsFixedCanonicalCover (n : ℕ) (ds canonical : List Dependency) : Type 0 where
  pub whole : List Dependency
  pub fixed : IsFixedWholeCover n ds whole
  pub once : canonical ≡ merge_left_sides whole
