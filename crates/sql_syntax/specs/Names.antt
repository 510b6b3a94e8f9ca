-- Names in SQL: for all that prints statements.
use Rattle.std.specs.Prelude.{ℕ, Bool, true, false, List, [], ◌∷◌, ◌++◌, map, codes}
use Rattle.std.specs.List.{flat_map}
use Rattle.attr_sets.specs.Attributes.{Attributes}
use Rattle.schema_model.specs.Schemas.{Schema}
use Rattle.schema_model.specs.Names.{quoted}
use Rattle.schema_model.specs.Schemas.{names_of}
use Rattle.schema_printer.specs.Printing.{members_from}
use Rattle.sql_syntax.specs.Syntax.{ColumnName, attribute}

-- what separates two items of a list
abbrev pub separator : List ℕ
separator = codes ", "

-- the texts of items, with a comma and a blank between
abbrev pub comma_list : {X : Type 0} → (X → List ℕ) → List X → List ℕ
comma_list text [] = []
comma_list text (x ∷ xs) = text x ++ flat_map (λ y. separator ++ text y) xs

-- whether a list has an item
abbrev pub is_not_empty : {X : Type 0} → List X → Bool
is_not_empty [] = false
is_not_empty (x ∷ xs) = true

-- a name between double quotes, each double quote in it doubled
abbrev pub quoted_name : List ℕ → List ℕ
quoted_name name = quoted name

-- the names of a set's attributes, ascending
abbrev pub attribute_names : Schema → Attributes → List ColumnName
attribute_names s x = map attribute (members_from x 0 (names_of s))
