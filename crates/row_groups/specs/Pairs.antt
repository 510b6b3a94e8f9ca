-- How pairs are given numbers, the first pair of each first half apart from the others: for `Groups`. `Desk`
-- does not cite it.
use Rattle.std.specs.Prelude.{◌≡◌, ◌⊎◌, ℕ, List, [], ◌∷◌, ◌++◌, length, Some}
use Rattle.std.specs.List.{slice_get}
use Rattle.row_groups.specs.Numberings.{number_at}

-- a value is given a number: that of an equal one that was seen, or the next one
pub record Gets {X : Type 0} (v : X) (seen after : List X) (r : ℕ) : Type 0 where
  pub number : ((after ≡ seen) × (slice_get seen r ≡ Some v))
      ⊎ ((after ≡ seen ++ v ∷ []) × (r ≡ length seen) × ((g : ℕ) → slice_get seen g ≡ Some v → ⊥))

-- a pair is the first one of its first half, or one of the others
abbrev pub IsKeptPair : List (ℕ × ℕ) → List (ℕ × ℕ) → ℕ × ℕ → Type 0
IsKeptPair leads others p =
    (lead : ℕ × ℕ) × (slice_get leads p.0 ≡ Some lead)
    × ((lead.0 ≡ p.1) ⊎ ((k : ℕ) × (slice_get others k ≡ Some p)))

-- what is kept of the pairs that were seen: for each first half the second half of its first pair, with the
-- number of that pair; and the other pairs, with their numbers
pub record AreKeptPairs (seen leads others : List (ℕ × ℕ)) (numbers : List ℕ) : Type 0 where
  pub lead : (g : ℕ) (l : ℕ × ℕ) → slice_get leads g ≡ Some l → slice_get seen l.1 ≡ Some (g, l.0)
  pub other : (k : ℕ) (p : ℕ × ℕ) → slice_get others k ≡ Some p → slice_get seen (number_at numbers k) ≡ Some p
  pub all : (m : ℕ) (p : ℕ × ℕ) → slice_get seen m ≡ Some p → IsKeptPair leads others p
