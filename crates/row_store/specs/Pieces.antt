-- Lists that lie one after another in one list, by the ends of each: for the stores of values and rows.
use Rattle.std.specs.Prelude.{◌≡◌, ◌-◌, ◌≤◌, ℕ, List, [], ◌∷◌, take, drop}

-- the pieces of a list that end there, where the first begins at `from`
abbrev pub pieces : {X : Type 0} → ℕ → List X → List ℕ → List (List X)
pieces from items [] = []
pieces from items (end ∷ ends) = take (end - from) (drop from items) ∷ pieces end items ends

-- the ends ascend from `from`, and the last one is the count of items
abbrev pub AreEnds : ℕ → ℕ → List ℕ → Type 0
AreEnds from count [] = from ≡ count
AreEnds from count (end ∷ ends) = (from ≤ end) × AreEnds end count ends
