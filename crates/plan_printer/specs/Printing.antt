-- The text of a plan: for `print_plan`, and for the commands that print plans
-- (`desk_designs/Synthesis`, `desk_designs/Decompositions`).
use Rattle.std.specs.Prelude.{ℕ, List, ◌++◌, map, codes}
use Rattle.attr_sets.specs.Attributes.{Attributes}
use Rattle.schema_printer.specs.Printing.{words_text, members_from, lines_text}

-- a scheme line: the word `scheme`, and the names of the attributes in ascending order, each after a blank
abbrev pub scheme_text : List (List ℕ) → Attributes → List ℕ
scheme_text names x = codes "scheme" ++ words_text (members_from x 0 names)

-- a plan: a line for each scheme
abbrev pub plan_text : List (List ℕ) → List Attributes → List ℕ
plan_text names schemes = lines_text (map (scheme_text names) schemes)
