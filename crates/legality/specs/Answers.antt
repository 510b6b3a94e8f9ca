-- The least pair of rows that breaks one dependency, and rows by the numbers of their values: for the functions
-- below `offences`. `Desk` does not cite it.
use Rattle.std.specs.Prelude.{◌≡◌, ℕ, true, Option, None, Some}
use Rattle.attr_sets.specs.Attributes.{Attributes}
use Rattle.dep_model.specs.Tuples.{Relation}
use Rattle.dep_model.specs.Dependencies.{Dependency, Obeys}
use Rattle.row_groups.specs.Interning.{IsInterned, codes_at}
use Rattle.row_groups.specs.Numberings.{number_at}
use Rattle.row_groups.specs.declared.interning.Interned.{Interned}
use Rattle.legality.specs.Offences.{IsLeastPair}
use Rattle.legality.specs.declared.pair.Pair.{Pair}

-- the least pair that breaks a dependency, or none where the rows obey it
abbrev pub IsLeastOffence : ℕ → Relation → Dependency → Option Pair → Type 0
IsLeastOffence n r d None = Obeys n d r
IsLeastOffence n r d (Some p) = IsLeastPair n r d p.first p.second

-- numbers stand for rows of this width
abbrev pub AreCodesOfRows : ℕ → Interned → Type 0
AreCodesOfRows n codes = (rows : Relation) × IsInterned n rows codes

-- two rows have the same numbers on a set
abbrev pub HaveSameCodes : Interned → Attributes → ℕ → ℕ → Type 0
HaveSameCodes codes x i j = (k : ℕ) → x k ≡ true → number_at (codes_at codes k) i ≡ number_at (codes_at codes k) j
