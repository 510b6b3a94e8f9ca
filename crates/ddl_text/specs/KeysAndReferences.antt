-- Keys and references, over tables as relations: for what `design` promises of them (`Laws`).
use Rattle.std.specs.Prelude.{◌≡◌, ℕ, true, false, Contains}
use Rattle.attr_sets.specs.Attributes.{Attributes}
use Rattle.dep_model.specs.Tuples.{Tuple, Relation}
use Rattle.dep_model.specs.OnSchemes.{value_in, AgreeIn}
use Rattle.optional_tables.specs.LookUps.{Missing}

-- any two rows of a table over a scheme that agree on the key are equal
abbrev pub KeyHolds : Attributes → Relation → Attributes → Type 0
KeyHolds scheme table key =
    (t u : Tuple) → Contains table t → Contains table u → AgreeIn scheme key t u → t ≡ u

-- a row over a scheme misses no value of a set
abbrev pub MissesNoneIn : Missing → Attributes → Tuple → Attributes → Type 0
MissesNoneIn missing scheme t x = (k : ℕ) → x k ≡ true → missing k (value_in scheme t k) ≡ false

-- a row over a scheme and one over another scheme are equal at each attribute of x
abbrev pub AgreeAcross : Attributes → Tuple → Attributes → Tuple → Attributes → Type 0
AgreeAcross scheme t other u x = (k : ℕ) → x k ≡ true → value_in scheme t k ≡ value_in other u k

-- for each row of a table over a scheme that misses no value of the key some row of a table over another scheme agrees
-- with it on the key
abbrev pub ReferenceHolds : Missing → Attributes → Relation → Attributes → Relation → Attributes → Type 0
ReferenceHolds missing scheme table other other_table key =
    (t : Tuple) → Contains table t → MissesNoneIn missing scheme t key
    → (u : Tuple) × Contains other_table u × AgreeAcross scheme t other u key
