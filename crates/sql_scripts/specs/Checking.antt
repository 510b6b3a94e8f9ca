-- The script that asks for what breaks the rules of a schema: for `check_script` and `sql check`
-- (`desk_scripts/Scripts`).
use Rattle.std.specs.Prelude.{ℕ, if◌then◌else◌, Option, Some, None, List, [], ◌∷◌, ◌++◌, codes, All, MatchOption, ⊤}
use Rattle.std.specs.Fmt.{decimal}
use Rattle.std.specs.List.{flat_map, range_with_len}
use Rattle.schema_model.specs.declared.naming.Naming.{Naming}
use Rattle.schema_model.specs.Schemas.{Schema}
use Rattle.dep_model.specs.Dependencies.{Dependency}
use Rattle.dep_model.specs.Projections.{members_below}
use Rattle.schema_model.specs.Schemas.{width_of, naming_of, theory_of}
use Rattle.dep_model.specs.Tuples.{Relation}
use Rattle.schema_printer.specs.Printing.{dependency_text, is_integer}
use Rattle.schema_printer.specs.Spelling.{spelling, printed_names_of}
use Rattle.sql_syntax.specs.Syntax.{Query}
use Rattle.sql_syntax.specs.Printing.{query_text}
use Rattle.relation_queries.specs.Queries.{breaches_of}
use Rattle.relation_queries.specs.Meanings.{GivesNone}
use Rattle.sql_check.specs.Columns.{name_at, type_at, named_column}
use Rattle.sql_check.specs.Checks.{required_of, missing_query, integer_query, rules_of, check_query}

-- a query as a statement, in a line
unfoldable pub check_line : Query → List ℕ
check_line q = query_text q ++ codes ";\n"

-- ---- values
-- a query for the rows in which a value of these attributes is missing, if there are some
abbrev pub missing_text : Schema → List ℕ → List ℕ → List ℕ
missing_text s table [] = []
missing_text s table (k ∷ ms) = codes "-- no value is missing\n" ++ check_line (missing_query s table k ms)

-- a query for the values of an integer column that are none
unfoldable pub integer_check_text : Naming → List ℕ → List ℕ → List ℕ
integer_check_text naming table name =
    codes "-- " ++ spelling naming name ++ codes " is an integer\n"
    ++ check_line (integer_query table (named_column (codes "r") name))

abbrev pub value_text : Schema → List ℕ → ℕ → List ℕ
value_text s table k = if is_integer (type_at s k) then integer_check_text (naming_of s) table (name_at s k) else []

-- ---- rules
-- after a rule the query for what breaks it, if there is one
abbrev pub breaches_text : Option Query → List ℕ
breaches_text None = codes " holds always\n"
breaches_text (Some q) = codes "\n" ++ check_line q

-- a rule: its line in the schema's file, the dependency, and what is said of it
abbrev pub rule_line : Schema → ℕ → Dependency → List ℕ → List ℕ
rule_line s line d rest =
    codes "-- line " ++ decimal line ++ codes ": " ++ dependency_text (printed_names_of s) d ++ rest

-- a rule and the query for what breaks it
unfoldable pub rule_text : Schema → List ℕ → ℕ → Dependency → List ℕ
rule_text s table line d = rule_line s line d (breaches_text (check_query s table line d))

-- each rule, in the order of the file
abbrev pub rules_text : Schema → List ℕ → List ℕ
rules_text s table =
    flat_map (λ rule. rule_text s table rule.0 rule.1) (rules_of s)

abbrev pub check_text : Schema → List ℕ → List ℕ
check_text s table =
    codes "-- where all rules hold, no query gives a row\n"
    ++ missing_text s table (members_below (width_of s) (required_of s))
    ++ flat_map (value_text s table) (range_with_len 0 (width_of s)) ++ rules_text s table

-- ---- what the queries show
-- no query for what breaks a rule gives a tuple over a relation
abbrev pub NothingBreaks : Schema → Relation → Type 0
NothingBreaks s r =
    All (λ d. MatchOption (breaches_of (width_of s) d) ⊤ (λ q. GivesNone (width_of s) q r)) (theory_of s)
