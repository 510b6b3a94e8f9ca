-- The script that counts what breaks the rules of a schema: for `measure_script` and `sql measure`
-- (`desk_scripts/Scripts`).
use Rattle.std.specs.Prelude.{ℕ, List, ◌++◌, codes}
use Rattle.std.specs.List.{flat_map}
use Rattle.schema_model.specs.Schemas.{Schema}
use Rattle.dep_model.specs.Dependencies.{Dependency}
use Rattle.sql_check.specs.Checks.{rules_of}
use Rattle.sql_measure.specs.Measures.{measure_query}
use Rattle.sql_scripts.specs.Checking.{breaches_text, rule_line}

-- a rule: its line in the schema's file, the dependency, and the query that counts what breaks it
unfoldable pub measured_rule_text : Schema → List ℕ → ℕ → Dependency → List ℕ
measured_rule_text s table line d = rule_line s line d (breaches_text (measure_query s table d))

-- each rule, in the order of the file
abbrev pub measured_rules_text : Schema → List ℕ → List ℕ
measured_rules_text s table =
    flat_map (λ rule. measured_rule_text s table rule.0 rule.1) (rules_of s)

abbrev pub measure_text : Schema → List ℕ → List ℕ
measure_text s table =
    codes "-- where a rule is broken, its query gives one row: broken groups, rows in them, "
    ++ codes "and how many must change or are missing\n" ++ measured_rules_text s table
