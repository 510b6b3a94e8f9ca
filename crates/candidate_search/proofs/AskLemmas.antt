-- What is asked about, one left side and one side more.
use Rattle.std.proofs.Common.{◌≡◌, ◌+◌, ◌<◌, ℕ, List, get_or, length, take}
use Rattle.std.specs.Prelude.{All, Contains}
use Rattle.std.proofs.lemmas.List.Elements.{All-contains, All-more, All-weaker, Contains-get_or}
use Rattle.attr_sets.specs.Attributes.{count_below}
use Rattle.attr_sets.specs.Sets.{attributes}
use Rattle.attr_sets.specs.declared.set.AttrSet.{AttrSet}
use Rattle.attr_sets.specs.declared.set.TheConstants.{MOST_ATTRIBUTES}
use Rattle.dep_model.proofs.ListLemmas.{Contains-map}
use Rattle.candidate_sets.specs.Standing.{IsCandidate}
use Rattle.candidate_search.specs.Asking.{AsksAll, IsAskedWithin}
use Rattle.candidate_search.specs.Sides.{HasCandidates, lefts_of}
use Rattle.candidate_search.specs.declared.asking.Asked.{Asked}
use Rattle.candidate_search.specs.declared.side.Side.{Side}

-- a left side of this size is asked about
abbrev pub IsAskedFor : List Asked → ℕ → ℕ → AttrSet → Type 0
IsAskedFor asked size right s = count_below (attributes s) MOST_ATTRIBUTES ≡ size
    → Contains asked (record { left = s; right = right })

pub asks_more : (size right : ℕ) (lefts : List AttrSet) (i : ℕ) (d : AttrSet) (asked more : List Asked) → i < length lefts
    → All (IsAskedFor asked size right) (take i lefts) → ((a : Asked) → Contains asked a → Contains more a)
    → IsAskedFor more size right (get_or lefts i d) → All (IsAskedFor more size right) (take (i + 1) lefts)
asks_more size right lefts i d asked more l are held is = All-more (IsAskedFor more size right) lefts i d l
    (All-weaker (IsAskedFor asked size right) (IsAskedFor more size right) (λ s asks count. held _ (asks count)) (take i lefts) are) is

-- what was asked stays asked
pub asks_all_more : (asked more : List Asked) (size : ℕ) (sides : List Side)
    → ((a : Asked) → Contains asked a → Contains more a) → All (AsksAll asked size) sides → All (AsksAll more size) sides
asks_all_more asked more size sides held are = All-weaker (AsksAll asked size) (AsksAll more size)
    (λ side asks. All-weaker (IsAskedFor asked size side.right) (IsAskedFor more size side.right)
    (λ s one count. held (record { left = s; right = side.right }) (one count)) side.lefts.items asks) sides are

-- a listed candidate is a question within the columns
pub asked_within : (n most : ℕ) (side : Side) (i : ℕ) (d : AttrSet) → HasCandidates n most side → i < length side.lefts.items
    → IsAskedWithin n (record { left = get_or side.lefts.items i d; right = side.right })
asked_within n most side i d has l = record {
  left = (All-contains (IsCandidate n most has.seen side.right) (lefts_of side) (attributes (get_or side.lefts.items i d))
      has.candidates.each (Contains-map attributes side.lefts.items (get_or side.lefts.items i d)
      (Contains-get_or side.lefts.items i d l))).within;
  right = has.right;
}
