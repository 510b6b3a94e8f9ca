-- What a schema has of a set of attributes, in its order, and the schema text of that: for `print_part`
-- and the command `project`.
use Rattle.std.specs.Prelude.{ℕ, List, [], ◌++◌, map, slice_index_or}
use Rattle.attr_sets.specs.Attributes.{Attributes, none, intersection}
use Rattle.schema_model.specs.declared.column_type.ColumnType.{ColumnType}
use Rattle.schema_model.specs.declared.column_type.ColumnType.TheVariants.{Text}
use Rattle.schema_model.specs.Schemas.{Schema}
use Rattle.dep_model.specs.Dependencies.{Dependency}
use Rattle.dep_model.specs.Projections.{members_below}
use Rattle.schema_model.specs.Schemas.{naming_of, names_of, width_of, types_of, nullable_of}
use Rattle.schema_printer.specs.Printing.{dependency_text, lines_text, members_from, nullable_lines, schema_lines}
use Rattle.schema_printer.specs.Spelling.{spelling, printed_names_of}

-- what a list has at the members of a set, in its order
abbrev pub chosen : {X : Type 0} → List X → X → ℕ → Attributes → List X
chosen {X} list otherwise n x = map (λ k. slice_index_or list k otherwise) (members_below n x)

-- the names of the attributes of a set
abbrev pub part_names : Schema → Attributes → List (List ℕ)
part_names s x = chosen (names_of s) [] (width_of s) x

-- the types of their columns
abbrev pub part_types : Schema → Attributes → List ColumnType
part_types s x = chosen (types_of s) Text (width_of s) x

-- the lines that declare the attributes of a set, beside those that are nullable
abbrev pub part_declared_text : Schema → Attributes → List ℕ
part_declared_text s x =
    lines_text (schema_lines (naming_of s) (part_types s x) (map (spelling (naming_of s)) (part_names s x)) none)

-- the text that declares the attributes of a set as a schema's text does: their names, their types and
-- which of them are nullable
abbrev pub part_heading : Schema → Attributes → List ℕ
part_heading s x =
    part_declared_text s x
    ++ lines_text (nullable_lines (members_from (intersection (nullable_of s) x) 0 (printed_names_of s)))

-- a line for each dependency
abbrev pub rules_text : Schema → List Dependency → List ℕ
rules_text s deps = lines_text (map (dependency_text (printed_names_of s)) deps)

-- the schema text of the attributes of a set, with dependencies over them
abbrev pub part_text : Schema → Attributes → List Dependency → List ℕ
part_text s x deps = part_heading s x ++ rules_text s deps
