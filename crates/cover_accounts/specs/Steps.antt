-- How the fixed whole cover of a list comes about: for `cover_steps` and the command `explain cover`.
use Rattle.std.specs.Prelude.{◌≡◌, ◌⊎◌, ◌+◌, ℕ, Bool, not, List, [], ◌∷◌, ◌++◌, map, filter, All}
use Rattle.std.specs.List.{flat_map}
use Rattle.attr_sets.specs.Attributes.{Attributes}
use Rattle.attr_sets.specs.Sets.{attributes}
use Rattle.dep_model.specs.Dependencies.{Dependency, fd, is_fd}
use Rattle.dep_model.specs.Deps.{dependency_of}
use Rattle.dep_model.specs.Implication.{Implies}
use Rattle.min_cover.specs.Members.{members_of, IsLeftReduced}
use Rattle.cover_accounts.specs.declared.shortening.ShortMember.{ShortMember}
use Rattle.cover_accounts.specs.declared.thinning.PlacedDep.{PlacedDep}

-- ---- dependencies with their positions
-- a dependency, with the position of the one of a list, from 0, that it comes from
pub record Placed : Type 0 where
  pub position : ℕ
  pub dependency : Dependency

abbrev pub placed : ℕ → Dependency → Placed
placed k d = record { position = k; dependency = d }

abbrev pub placed_from : ℕ → List Dependency → List Placed
placed_from k [] = []
placed_from k (d ∷ ds) = placed k d ∷ placed_from (k + 1) ds

-- without their positions
abbrev pub without_positions : List Placed → List Dependency
without_positions list = map (λ p. p.dependency) list

-- the members of a functional dependency, with its position
abbrev pub placed_members : ℕ → Placed → List Placed
placed_members n p = map (placed p.position) (members_of n p.dependency)

abbrev pub is_multivalued : Placed → Bool
is_multivalued p = not (is_fd p.dependency)

-- ---- members with shortened left sides
-- a member of the functional dependency at a position: its left side, what is left of it, and its right
-- side
pub record Shortened : Type 0 where
  pub position : ℕ
  pub whole : Attributes
  pub left : Attributes
  pub right : Attributes

-- as it was, and as it is
abbrev pub whole_of : Shortened → Placed
whole_of m = placed m.position (fd m.whole m.right)

abbrev pub short_of : Shortened → Placed
short_of m = placed m.position (fd m.left m.right)

-- these members, in order, each with what is left of its left side where each attribute, from the first
-- to the last, goes exactly where the rest still determines the right side
pub record AreShortMembers (n : ℕ) (ds : List Dependency) (firsts : List Placed) (members : List Shortened)
    : Type 0 where
  pub members_are : map whole_of members ≡ firsts
  pub reduced : All (λ m. IsLeftReduced n ds m.whole m.right m.left) members

-- ---- dependencies that go
-- where, from the first to the last, each goes exactly where those kept before it and all after it imply
-- it: what is left, and what goes
abbrev pub IsThinnedInto : ℕ → List Placed → List Placed → List Placed → List Placed → Type 0
IsThinnedInto n kept [] rest gone = (rest ≡ kept) × (gone ≡ [])
IsThinnedInto n kept (p ∷ later) rest gone =
    (Implies n (without_positions kept ++ without_positions later) p.dependency
    × ((more : List Placed) × (gone ≡ p ∷ more) × IsThinnedInto n kept later rest more))
    ⊎ ((Implies n (without_positions kept ++ without_positions later) p.dependency → ⊥)
    × IsThinnedInto n (kept ++ p ∷ []) later rest gone)

-- the members of the functional dependencies, shortened; then what goes: of the members, and after that of
-- the multivalued dependencies beside the members that are left
pub record AreCoverSteps (n : ℕ) (ds : List Dependency) (members : List Shortened) (gone : List Placed)
    : Type 0 where
  pub shortened : AreShortMembers n ds (flat_map (placed_members n) (placed_from 0 ds)) members
  pub cover : List Placed
  pub gone_members : List Placed
  pub thinned : IsThinnedInto n [] (map short_of members) cover gone_members
  pub whole : List Placed
  pub gone_later : List Placed
  pub multivalued : IsThinnedInto n cover (filter is_multivalued (placed_from 0 ds)) whole gone_later
  pub all : gone ≡ gone_members ++ gone_later

-- ---- those of the code
abbrev pub place_of : PlacedDep → Placed
place_of one = placed one.position (dependency_of one.dep)

abbrev pub places_of : List PlacedDep → List Placed
places_of list = map place_of list

abbrev pub shortened_of : ShortMember → Shortened
shortened_of m = record {
  position = m.position;
  whole = attributes m.whole;
  left = attributes m.left;
  right = attributes m.right;
}

abbrev pub shortened_list : List ShortMember → List Shortened
shortened_list members = map shortened_of members
