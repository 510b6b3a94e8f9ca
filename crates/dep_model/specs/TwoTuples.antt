-- The relation of two tuples that agree exactly on a set: for what refutes an implication, and for
-- its printed rows.
use Rattle.std.specs.Prelude.{ℕ, if◌then◌else◌, List, [], ◌∷◌, map, replicate}
use Rattle.std.specs.List.{range_with_len}
use Rattle.attr_sets.specs.Attributes.{Attributes}
use Rattle.dep_model.specs.Tuples.{Tuple, Relation}

-- the texts `0` and `1`
abbrev pub zero_text : List ℕ
zero_text = 48 ∷ []

abbrev pub one_text : List ℕ
one_text = 49 ∷ []

-- the tuple of n times `0`
unfoldable pub all_zeros : ℕ → Tuple
all_zeros n = replicate n zero_text

-- the tuple over n attributes with `0` on a set and `1` elsewhere
unfoldable pub zeros_on : ℕ → Attributes → Tuple
zeros_on n x = map (λ k. if x k then zero_text else one_text) (range_with_len 0 n)

-- the relation of two tuples over n attributes that agree exactly on a set
unfoldable pub two_tuples : ℕ → Attributes → Relation
two_tuples n x = all_zeros n ∷ zeros_on n x ∷ []
