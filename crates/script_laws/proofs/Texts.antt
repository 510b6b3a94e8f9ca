-- The texts of `sql check` and `sql measure` are those of their scripts.
use Rattle.std.proofs.Common.{◌≡◌, ℕ, Bool, true, false, Some, None, Option, List, [], ◌∷◌, ◌++◌, refl, sym, ap, ◌∙◌, append_assoc, append-nil}
use Rattle.std.specs.Prelude.{codes, if◌then◌else◌}
use Rattle.std.specs.List.{flat_map, range_with_len}
use Rattle.std.proofs.lemmas.List.Concat.{flat_map-append}
use Rattle.dep_model.specs.Dependencies.{Dependency}
use Rattle.dep_model.specs.Projections.{members_below}
use Rattle.schema_model.specs.Schemas.{Schema, width_of, naming_of}
use Rattle.schema_printer.specs.Printing.{is_integer}
use Rattle.schema_printer.specs.Spelling.{spelling}
use Rattle.sql_syntax.specs.Printing.{query_text}
use Rattle.sql_syntax.specs.Syntax.{Query}
use Rattle.sql_syntax.specs.Statements.{Statement, remark, ask, statement_text, script_text}
use Rattle.sql_check.specs.Columns.{name_at, type_at, column_at}
use Rattle.sql_check.specs.Checks.{required_of, missing_query, missing_among, integer_query, rules_of, check_query}
use Rattle.sql_measure.specs.Measures.{measure_query}
use Rattle.sql_scripts.specs.Checking.{check_line, missing_text, integer_check_text, value_text, breaches_text, rule_line, rule_text, check_text}
use Rattle.sql_scripts.specs.Measuring.{measured_rule_text, measure_text}
use Rattle.script_laws.specs.Printed.{asked_after, missing_asked, integer_words, integer_asked, rule_words, rule_asked, checked_rule, measured_rule, check_script, measure_script}

-- ---- lists
script_both : (one other : List Statement) → script_text (one ++ other) ≡ script_text one ++ script_text other
script_both one other = flat_map-append statement_text one other

script_each : {X : Type 0} (make : X → List Statement) (text : X → List ℕ) (xs : List X)
    → ((x : X) → script_text (make x) ≡ text x)
    → script_text (flat_map make xs) ≡ flat_map text xs
script_each make text [] each = refl
script_each make text (x ∷ xs) each =
    script_both (make x) (flat_map make xs)
    ∙ ap (λ (t : List ℕ). t ++ script_text (flat_map make xs)) (each x)
    ∙ ap (λ (t : List ℕ). text x ++ t) (script_each make text xs each)

-- ---- one query
asked_text : (q : Query) → script_text (ask q ∷ []) ≡ check_line q
unfolding statement_text check_line
asked_text q = append-nil (query_text q ++ codes ";\n")

after_text : (words : List ℕ) (q : Query)
    → script_text (asked_after words (Some q)) ≡ codes "-- " ++ words ++ (codes "\n" ++ check_line q)
unfolding statement_text
after_text words q =
    append_assoc (codes "-- " ++ words) (codes "\n") (script_text (ask q ∷ []))
    ∙ ap (λ (t : List ℕ). codes "-- " ++ words ++ (codes "\n" ++ t)) (asked_text q)

-- ---- values
missing_is : (s : Schema) (table : List ℕ) (ks : List ℕ)
    → script_text (asked_after (codes "no value is missing") (missing_among s table ks)) ≡ missing_text s table ks
missing_is s table [] = refl
missing_is s table (k ∷ ms) = after_text (codes "no value is missing") (missing_query s table k ms)

integer_is : (s : Schema) (table : List ℕ) (k : ℕ)
    → script_text (asked_after (integer_words s k) (Some (integer_query table (column_at s (codes "r") k))))
    ≡ integer_check_text (naming_of s) table (name_at s k)
unfolding integer_check_text
integer_is s table k =
    let spelled : List ℕ = spelling (naming_of s) (name_at s k) in
    let asked : List ℕ = check_line (integer_query table (column_at s (codes "r") k)) in
    after_text (integer_words s k) (integer_query table (column_at s (codes "r") k))
    ∙ ap (λ (t : List ℕ). codes "-- " ++ t)
    (append_assoc spelled (codes " is an integer") (codes "\n" ++ asked)
    ∙ sym (append_assoc spelled (codes " is an integer\n") asked))

either_text : (b : Bool) (one other : List Statement) (text : List ℕ) → script_text one ≡ text → script_text other ≡ []
    → script_text (if b then one else other) ≡ (if b then text else [])
either_text true one other text first second = first
either_text false one other text first second = second

value_is : (s : Schema) (table : List ℕ) (k : ℕ) → script_text (integer_asked s table k) ≡ value_text s table k
value_is s table k =
    either_text (is_integer (type_at s k))
    (asked_after (integer_words s k) (Some (integer_query table (column_at s (codes "r") k)))) []
    (integer_check_text (naming_of s) table (name_at s k)) (integer_is s table k) refl

-- ---- rules
rule_is : (s : Schema) (line : ℕ) (d : Dependency) (found : Option Query)
    → script_text (rule_asked (rule_words s line d) found) ≡ rule_line s line d (breaches_text found)
unfolding statement_text
rule_is s line d None =
    append-nil _ ∙ ap (λ (t : List ℕ). codes "-- " ++ t)
    (append_assoc (rule_words s line d) (codes " holds always") (codes "\n"))
rule_is s line d (Some q) = after_text (rule_words s line d) q

check_rule_is : (s : Schema) (table : List ℕ) (line : ℕ) (d : Dependency)
    → script_text (rule_asked (rule_words s line d) (check_query s table line d)) ≡ rule_text s table line d
unfolding rule_text
check_rule_is s table line d = rule_is s line d (check_query s table line d)

measure_rule_is : (s : Schema) (table : List ℕ) (line : ℕ) (d : Dependency)
    → script_text (rule_asked (rule_words s line d) (measure_query s table d)) ≡ measured_rule_text s table line d
unfolding measured_rule_text
measure_rule_is s table line d = rule_is s line d (measure_query s table d)

-- ---- scripts
opening_is : (words : List ℕ) (rest : List Statement)
    → script_text (remark words ∷ rest) ≡ (codes "-- " ++ words ++ codes "\n") ++ script_text rest
unfolding statement_text
opening_is words rest = refl

abbrev opening_words : List ℕ
opening_words = codes "where all rules hold, no query gives a row"

pub check_text_is : (s : Schema) (table : List ℕ) → check_text s table ≡ script_text (check_script s table)
check_text_is s table =
    let first : List Statement = remark opening_words ∷ missing_asked s table in
    let integers : List Statement = flat_map (integer_asked s table) (range_with_len 0 (width_of s)) in
    let rules : List Statement = flat_map (checked_rule s table) (rules_of s) in
    let missing : List ℕ = missing_text s table (members_below (width_of s) (required_of s)) in
    let opened : List ℕ = codes "-- where all rules hold, no query gives a row\n" ++ missing in
    let values : List ℕ = flat_map (value_text s table) (range_with_len 0 (width_of s)) in
    sym (script_both (first ++ integers) rules
    ∙ ap (λ (t : List ℕ). t ++ script_text rules) (script_both first integers)
    ∙ ap (λ (t : List ℕ). (t ++ script_text integers) ++ script_text rules)
    (opening_is opening_words (missing_asked s table)
    ∙ ap (λ (t : List ℕ). codes "-- where all rules hold, no query gives a row\n" ++ t)
    (missing_is s table (members_below (width_of s) (required_of s))))
    ∙ ap (λ (t : List ℕ). (opened ++ t) ++ script_text rules)
    (script_each (integer_asked s table) (value_text s table) (range_with_len 0 (width_of s)) (value_is s table))
    ∙ ap (λ (t : List ℕ). (opened ++ values) ++ t)
    (script_each (checked_rule s table) (λ rule. rule_text s table rule.0 rule.1) (rules_of s)
    (λ rule. check_rule_is s table rule.0 rule.1)))

abbrev counting_words : List ℕ
counting_words =
    codes "where a rule is broken, its query gives one row: broken groups, rows in them, "
    ++ codes "and how many must change or are missing"

pub measure_text_is : (s : Schema) (table : List ℕ) → measure_text s table ≡ script_text (measure_script s table)
measure_text_is s table =
    sym (opening_is counting_words (flat_map (measured_rule s table) (rules_of s))
    ∙ ap (λ (t : List ℕ). (codes "-- " ++ counting_words ++ codes "\n") ++ t)
    (script_each (measured_rule s table) (λ rule. measured_rule_text s table rule.0 rule.1) (rules_of s)
    (λ rule. measure_rule_is s table rule.0 rule.1)))
