-- The texts that several commands print: refusals, sets of attributes, a relation that shows a `no`, and a comment on
-- what no schema file takes.
use Rattle.std.specs.Prelude.{ℕ, List, [], ◌∷◌, ◌++◌, codes, length, nat_lt, if◌then◌else◌}
use Rattle.attr_sets.specs.Attributes.{Attributes}
use Rattle.schema_printer.specs.Printing.{set_text}
use Rattle.csv_text.specs.Rows.{rows_text}
use Rattle.dep_model.specs.Dependencies.{Dependency}
use Rattle.dep_model.specs.Tuples.{Relation}
use Rattle.dep_model.specs.declared.theory.TheConstants.{MOST_DEPENDENCIES}

-- a line of a text
abbrev pub line : List ℕ → List ℕ
line text = text ++ 10 ∷ []

-- a line of a word and a set of attributes
abbrev pub set_line : List ℕ → List (List ℕ) → Attributes → List ℕ
set_line word names set = line (word ++ set_text names set)

abbrev pub unknown_words_text : List ℕ
unknown_words_text = line (codes "refused: the words form no command")

abbrev pub cannot_read_text : List ℕ → List ℕ
cannot_read_text name = line (codes "cannot read " ++ name)

abbrev pub too_long_text : List ℕ → List ℕ
too_long_text name = line (codes "refused: " ++ name ++ codes " is too long")

abbrev pub goal_too_long_text : List ℕ
goal_too_long_text = line (codes "refused: goal is too long")

abbrev pub set_too_long_text : List ℕ
set_too_long_text = line (codes "refused: set is too long")

abbrev pub yes_text : List ℕ
yes_text = line (codes "yes")

-- `no` and a relation that shows it
abbrev pub no_text : List (List ℕ) → Relation → List ℕ
no_text names rows = line (codes "no") ++ rows_text names rows

-- a comment before more dependencies than a schema file takes
abbrev pub overlong_text : List Dependency → List ℕ
overlong_text rules =
    if nat_lt MOST_DEPENDENCIES (length rules)
    then line (codes "# more than 4096 dependencies: no schema file takes so many")
    else []
