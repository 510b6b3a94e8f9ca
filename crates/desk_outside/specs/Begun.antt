-- Which names were begun, as a test of their list: for file sources, and for destinations of tables.
-- `Desk` cites `Begun`.
use Rattle.std.specs.Prelude.{◌⊎◌, ℕ, List, [], ◌∷◌, ◌++◌}

-- which lists of names may be those begun, in order
abbrev pub Begun : Type 1
Begun = List (List ℕ) → Type 0

-- this name is the last one begun
abbrev pub Begins : List ℕ → Begun → Begun → Type 0
Begins name old new = (names : List (List ℕ)) → old names → new (names ++ name ∷ [])

-- this name may be the last one begun
abbrev pub MayBegin : List ℕ → Begun → Begun → Type 0
MayBegin name old new = (names : List (List ℕ)) → old names → new names ⊎ new (names ++ name ∷ [])

-- no name is begun
abbrev pub KeepsBegun : Begun → Begun → Type 0
KeepsBegun old new = (names : List (List ℕ)) → old names → new names
