-- Lines that the answers of several commands have: for all of them.
use Rattle.std.specs.Prelude.{ℕ, List, [], ◌++◌, codes, slice_index_or, Option, Some, None}
use Rattle.std.specs.Fmt.{decimal}
use Rattle.attr_sets.specs.Attributes.{Attributes}
use Rattle.dep_model.specs.Deps.{dependency_of}
use Rattle.dep_model.specs.declared.dep.Dep.{Dep}
use Rattle.schema_printer.specs.Printing.{dependency_text, set_text}
use Rattle.desk_texts.specs.Texts.{line}

-- the line of a schema file on which a dependency stands
abbrev pub line_number_text : Option ℕ → List ℕ
line_number_text (Some at) = decimal at
line_number_text None = []

-- the name of an attribute, of these names
abbrev pub attribute_name : List (List ℕ) → ℕ → List ℕ
attribute_name names attribute = slice_index_or names attribute []

-- a dependency, over the names of the attributes
abbrev pub dep_text : List (List ℕ) → Option Dep → List ℕ
dep_text names (Some d) = dependency_text names (dependency_of d)
dep_text names None = []

-- the refusal of a scheme that has more attributes than are looked at
abbrev pub too_wide_text : List (List ℕ) → Attributes → List ℕ
too_wide_text names scheme = line (codes "refused: too wide: scheme " ++ set_text names scheme)

-- the refusal of a word that names no table
abbrev pub bad_table_text : List ℕ
bad_table_text = line (codes "refused: bad table name")
