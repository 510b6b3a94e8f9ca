-- The scripts of `sql check` and `sql measure` as statements: for the laws of what is printed. `Desk` does not cite it.
use Rattle.std.specs.Prelude.{ℕ, if◌then◌else◌, Option, Some, None, List, [], ◌∷◌, ◌++◌, codes}
use Rattle.std.specs.Fmt.{decimal}
use Rattle.std.specs.List.{flat_map, range_with_len}
use Rattle.dep_model.specs.Dependencies.{Dependency}
use Rattle.schema_model.specs.Schemas.{Schema, width_of, naming_of}
use Rattle.schema_printer.specs.Printing.{dependency_text, is_integer}
use Rattle.schema_printer.specs.Spelling.{spelling, printed_names_of}
use Rattle.sql_syntax.specs.Syntax.{Query}
use Rattle.sql_syntax.specs.Statements.{Statement, remark, ask}
use Rattle.sql_check.specs.Columns.{name_at, type_at, column_at}
use Rattle.sql_check.specs.Checks.{required_query, integer_query, rules_of, check_query}
use Rattle.sql_measure.specs.Measures.{measure_query}

-- ---- values
-- a query after a remark, if there is one
abbrev pub asked_after : List ℕ → Option Query → List Statement
asked_after words None = []
asked_after words (Some q) = remark words ∷ ask q ∷ []

abbrev pub missing_asked : Schema → List ℕ → List Statement
missing_asked s table = asked_after (codes "no value is missing") (required_query s table)

abbrev pub integer_words : Schema → ℕ → List ℕ
integer_words s k = spelling (naming_of s) (name_at s k) ++ codes " is an integer"

abbrev pub integer_asked : Schema → List ℕ → ℕ → List Statement
integer_asked s table k =
    if is_integer (type_at s k)
    then asked_after (integer_words s k) (Some (integer_query table (column_at s (codes "r") k)))
    else []

-- ---- rules
-- a rule: its line in the schema's file, and the dependency
abbrev pub rule_words : Schema → ℕ → Dependency → List ℕ
rule_words s line d = codes "line " ++ decimal line ++ codes ": " ++ dependency_text (printed_names_of s) d

-- after a rule the query for it, if there is one
abbrev pub rule_asked : List ℕ → Option Query → List Statement
rule_asked words None = remark (words ++ codes " holds always") ∷ []
rule_asked words (Some q) = asked_after words (Some q)

abbrev pub checked_rule : Schema → List ℕ → ℕ × Dependency → List Statement
checked_rule s table rule = rule_asked (rule_words s rule.0 rule.1) (check_query s table rule.0 rule.1)

abbrev pub measured_rule : Schema → List ℕ → ℕ × Dependency → List Statement
measured_rule s table rule = rule_asked (rule_words s rule.0 rule.1) (measure_query s table rule.1)

-- ---- scripts
abbrev pub check_script : Schema → List ℕ → List Statement
check_script s table =
    (remark (codes "where all rules hold, no query gives a row") ∷ missing_asked s table)
    ++ flat_map (integer_asked s table) (range_with_len 0 (width_of s))
    ++ flat_map (checked_rule s table) (rules_of s)

abbrev pub measure_script : Schema → List ℕ → List Statement
measure_script s table =
    remark
    (codes "where a rule is broken, its query gives one row: broken groups, rows in them, "
    ++ codes "and how many must change or are missing")
    ∷ flat_map (measured_rule s table) (rules_of s)
