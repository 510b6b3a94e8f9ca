-- Relations that the program makes up, as they are shown: for every answer that shows one.
use Rattle.std.specs.Prelude.{◌≡◌, List, length}
use Rattle.attr_sets.specs.Attributes.{Attributes}
use Rattle.schema_model.specs.Schemas.{theory_of, types_of, width_of, LegalFor}
use Rattle.dep_model.specs.Tuples.{Relation, Tuple, AgreeExactly}
use Rattle.dep_model.specs.TwoTuples.{all_zeros, two_tuples}
use Rattle.schema_model.specs.Schemas.{Schema}
use Rattle.typed_rows.specs.Typed.{typed_relation, typed_tuple}

-- a relation of numbers with values of the columns' types in their place
abbrev pub shown_relation : Schema → Relation → Relation
shown_relation schema r = typed_relation (types_of schema) r

-- the two tuples that agree exactly on a set
abbrev pub shown_tuples : Schema → Attributes → Relation
shown_tuples schema x = shown_relation schema (two_tuples (width_of schema) x)

-- the tuple that stands for `0` at each attribute
abbrev pub shown_zeros : Schema → Tuple
shown_zeros schema = typed_tuple (types_of schema) (all_zeros (width_of schema))
