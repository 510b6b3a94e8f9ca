-- Tuples and finite relations: for every definition of the theory.
use Rattle.std.specs.Prelude.{◌≡◌, ℕ, ◌<◌, ◌↔◌, Bool, true, not, List, [], ◌∷◌, length, filter, All, Contains, nat_eq, slice_index_or}
use Rattle.std.specs.Cmp.Lexicographic.{pointwise}
use Rattle.attr_sets.specs.Attributes.{Attributes}

-- a tuple: its values in the order of the attributes. A value is a byte string; a byte may be any
-- number, since dependencies look at equality alone
abbrev pub Tuple : Type 0
Tuple = List (List ℕ)

-- a relation: finitely many tuples, whose order and repetition mean nothing
abbrev pub Relation : Type 0
Relation = List Tuple

-- each tuple has n values
abbrev pub IsOver : ℕ → Relation → Type 0
IsOver n r = All (λ t. length t ≡ n) r

-- each tuple is in both or in neither
abbrev pub SameRelation : Relation → Relation → Type 0
SameRelation r s = (t : Tuple) → Contains r t ↔ Contains s t

-- the value of a tuple at an attribute
abbrev pub value_at : Tuple → ℕ → List ℕ
value_at t k = slice_index_or t k []

-- the two tuples are equal at each attribute of x
abbrev pub AgreeOn : Attributes → Tuple → Tuple → Type 0
AgreeOn x t u = (k : ℕ) → x k ≡ true → value_at t k ≡ value_at u k

-- two tuples over n attributes are equal at the attributes of x, and at no other
pub record AgreeExactly (n : ℕ) (x : Attributes) (t u : Tuple) : Type 0 where
  pub first : length t ≡ n
  pub second : length u ≡ n
  pub equal : (k : ℕ) → k < n → (x k ≡ true) ↔ (value_at t k ≡ value_at u k)

-- whether two tuples are equal
abbrev pub same_tuple : Tuple → Tuple → Bool
same_tuple t u = pointwise (pointwise nat_eq) t u

-- each distinct tuple once, at its first occurrence
abbrev pub distinct_tuples : Relation → Relation
distinct_tuples [] = []
distinct_tuples (t ∷ r) = t ∷ filter (λ u. not (same_tuple t u)) (distinct_tuples r)
