-- Attributes and columns of two schemas, matched by names: for `first_undeclared`, `differences`
-- and `check same` (`desk_covers/Sameness`).
use Rattle.std.specs.Prelude.{ℕ, ◌&&◌, nat_lt, List, [], map, slice_index_or}
use Rattle.std.specs.Prelude.{Option, is_none, option_map, unwrap_or}
use Rattle.attr_sets.specs.Attributes.{Attributes, IsEmpty}
use Rattle.schema_model.specs.Schemas.{Schema}
use Rattle.dep_model.specs.Tuples.{Tuple, Relation, value_at}
use Rattle.schema_model.specs.Schemas.{names_of, width_of, attribute_named}

-- the name of an attribute of a schema
abbrev pub name_of_attribute : Schema → ℕ → List ℕ
name_of_attribute s a = slice_index_or (names_of s) a []

-- the attribute of another schema that has the name of an attribute of this one, ASCII case aside
abbrev pub namesake : Schema → Schema → ℕ → Option ℕ
namesake schema other a = attribute_named (names_of other) (name_of_attribute schema a)

-- the attributes of a schema whose names another does not declare
abbrev pub undeclared_attributes : Schema → Schema → Attributes
undeclared_attributes schema other a = nat_lt a (width_of schema) && is_none (namesake schema other a)

-- the names of a schema's attributes are all declared by another
abbrev pub IsDeclaredBy : Schema → Schema → Type 0
IsDeclaredBy other schema = IsEmpty (undeclared_attributes schema other)

-- two schemas over the same names
abbrev pub SameNames : Schema → Schema → Type 0
SameNames schema other = IsDeclaredBy other schema × IsDeclaredBy schema other

-- the value of a tuple in the column of this name
abbrev pub value_named : List (List ℕ) → Tuple → List ℕ → List ℕ
value_named names t name = unwrap_or (option_map (value_at t) (attribute_named names name)) []

-- a tuple over a schema's columns, as one over another's: the values are taken by the columns' names
abbrev pub reorder_tuple : Schema → Schema → Tuple → Tuple
reorder_tuple schema other t = map (value_named (names_of schema) t) (names_of other)

-- a relation over a schema's columns, as one over another's
abbrev pub reorder : Schema → Schema → Relation → Relation
reorder schema other r = map (reorder_tuple schema other) r
