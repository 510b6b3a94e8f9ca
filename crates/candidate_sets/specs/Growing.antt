-- Which sets a step keeps, which it grows, and what they grow to. For the functions below
-- `add_evidence`. `Desk` does not cite it.
use Rattle.std.specs.Prelude.{◌≡◌, ◌≢◌, ◌+◌, ◌++◌, ◌^◌, ◌<◌, ◌&&◌, ℕ, Bool, true, not, List, [], ◌∷◌, length, All}
use Rattle.std.specs.Prelude.{AllPairs, Any, Contains, nat_lt}
use Rattle.attr_sets.specs.Attributes.{Attributes, only, union, IsSubset, count_below}
use Rattle.attr_sets.specs.declared.set.AttrSet.{AttrSet}
use Rattle.attr_sets.specs.declared.set.TheConstants.{MOST_ATTRIBUTES}
use Rattle.attr_sets.specs.Sets.{attributes, is_subset}
use Rattle.dep_model.specs.Plans.{schemes_of}
use Rattle.candidate_sets.specs.declared.refusal.TheConstants.{MOST_CANDIDATES}

-- whether a set lies not within x
abbrev pub is_apart : Attributes → AttrSet → Bool
is_apart x s = not (is_subset (attributes s) x)

-- whether a set lies within x and has fewer members than `most`
abbrev pub can_grow : Attributes → ℕ → AttrSet → Bool
can_grow x most s =
    is_subset (attributes s) x && nat_lt (count_below (attributes s) MOST_ATTRIBUTES) most

-- some listed set lies within x
abbrev pub HasWithin : List AttrSet → Attributes → Type 0
HasWithin sets x = Any (λ s. IsSubset (attributes s) x) sets

-- y is x with one of the columns below a bound more, and holds no kept set
pub record IsFresh (kept : List AttrSet) (columns x : Attributes) (bound : ℕ) (y : Attributes)
    : Type 0 where
  pub by : ℕ
  pub low : by < bound
  pub column : columns by ≡ true
  pub is : y ≡ union x (only by)
  pub holds_none : HasWithin kept y → ⊥

-- the same for one of the hit sets
pub record IsFreshFrom (kept : List AttrSet) (columns : Attributes) (hits : List AttrSet)
    (bound : ℕ) (y : Attributes) : Type 0 where
  pub hit : AttrSet
  pub is_hit : Contains hits hit
  pub fresh : IsFresh kept columns (attributes hit) bound y

-- different sets, by their numbers
pub record AreDifferent (sets : List AttrSet) : Type 0 where
  pub differ : AllPairs (λ s t. attributes s ≢ attributes t) sets
  pub numbers : All (λ s. s.0 < 2 ^ MOST_ATTRIBUTES) sets

-- exactly those, each once
pub record AreFresh (kept : List AttrSet) (columns : Attributes) (hits : List AttrSet) (bound : ℕ)
    (new : List AttrSet) : Type 0 where
  pub each : All (λ s. IsFreshFrom kept columns hits bound (attributes s)) new
  pub all : (y : Attributes) → IsFreshFrom kept columns hits bound y → Contains (schemes_of new) y
  pub different : AreDifferent new

-- those of one hit set go to the end of a list
pub record AddsFresh (kept : List AttrSet) (columns : Attributes) (hit : AttrSet) (bound : ℕ)
    (old new : List AttrSet) : Type 0 where
  pub added : List AttrSet
  pub is : new ≡ old ++ added
  pub fresh : AreFresh kept columns (hit ∷ []) bound added

-- different sets of that kind, too many beside the kept ones
pub record HasManyFresh (kept : List AttrSet) (columns : Attributes) (hits : List AttrSet)
    (bound : ℕ) : Type 0 where
  pub new : List AttrSet
  pub each : All (λ s. IsFreshFrom kept columns hits bound (attributes s)) new
  pub different : AreDifferent new
  pub more : MOST_CANDIDATES < length kept + length new
