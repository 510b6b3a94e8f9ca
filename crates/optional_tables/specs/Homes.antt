-- Tables with a row only where no value of their key is missing, and where such a table is looked up: for designs of
-- schemas in which a value may be missing.
use Rattle.std.specs.Prelude.{ℕ, Bool, not, ◌&&◌, List}
use Rattle.std.specs.List.{list_any}
use Rattle.attr_sets.specs.Attributes.{Attributes, intersection}
use Rattle.attr_sets.specs.Sets.{attributes, is_subset, is_disjoint}
use Rattle.optional_tables.specs.declared.keyed.KeyedScheme.{KeyedScheme}

-- a table is optional where a value of its key may be missing
abbrev pub is_optional : Attributes → KeyedScheme → Bool
is_optional nullable table = not (is_disjoint (attributes table.key) nullable)

-- a table has an attribute outside its key; if a value of that may be missing, the table is a home of it
abbrev pub has_outside_key : KeyedScheme → ℕ → Bool
has_outside_key table a = attributes table.scheme a && not (attributes table.key a)

-- another table is a home of an optional one: it has all of its key, and each attribute of that of which a value may be
-- missing outside its own
abbrev pub is_home_of : Attributes → KeyedScheme → KeyedScheme → Bool
is_home_of nullable table home =
    is_subset (attributes table.key) (attributes home.scheme)
    && is_disjoint (intersection nullable (attributes table.key)) (attributes home.key)

-- a home of a table is among some tables
abbrev pub has_home : Attributes → List KeyedScheme → KeyedScheme → Bool
has_home nullable tables table = list_any (is_home_of nullable table) tables
