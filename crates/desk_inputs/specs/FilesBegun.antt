-- Which files a call begins: for every function that reads one, and for `desk`, by `Desk`.
use Rattle.std.specs.Prelude.{ℕ, List, [], ◌∷◌, ◌++◌, take}
use Rattle.desk_outside.specs.Begun.{Begun}

-- the files of these names are begun, in their order
abbrev pub BeginsAll : List (List ℕ) → Begun → Begun → Type 0
BeginsAll names old new = (begun : List (List ℕ)) → old begun → new (begun ++ names)

-- the files of the first of these names are begun, in their order
abbrev pub BeginsFront : List (List ℕ) → Begun → Begun → Type 0
BeginsFront names old new =
    (begun : List (List ℕ)) → old begun → (count : ℕ) × new (begun ++ take count names)

-- files are begun, of which the last has this name
abbrev pub BeginsLast : List ℕ → Begun → Begun → Type 0
BeginsLast name old new = (earlier : List (List ℕ)) × BeginsAll (earlier ++ name ∷ []) old new
