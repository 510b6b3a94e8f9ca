-- What is said before the queries of `sql check` and `sql measure` is of one line each, so their scripts are read back.
use Rattle.std.proofs.Common.{◌&&◌, ℕ, not, IfSome, Some, None, Option, List, [], ◌∷◌, ◌++◌, refl, inl, inr}
use Rattle.std.specs.Prelude.{All, codes, decimal, slice_index_or}
use Rattle.std.specs.List.{flat_map, range_with_len}
use Rattle.std.proofs.lemmas.Bool.{cases_Bool}
use Rattle.std.proofs.lemmas.List.Elements.{All-nil, All-cons, All-head, All-tail, All-append, All-map, All-weaker}
use Rattle.attr_sets.specs.Attributes.{Attributes}
use Rattle.dep_model.specs.Dependencies.{Dependency, fd, mvd}
use Rattle.schema_model.specs.Names.{IsName, is_bare_name}
use Rattle.schema_model.specs.Schemas.{Schema, names_of, naming_of, width_of}
use Rattle.schema_model.specs.declared.naming.Naming.{Naming}
use Rattle.schema_model.specs.declared.naming.Naming.TheVariants.{Bare, Any}
use Rattle.schema_model.proofs.PlainLemmas.{IsPlain, name_plain, plain_both, quoted_plain}
use Rattle.schema_printer.specs.Printing.{dependency_text, is_integer, members_from, set_text, side_text, words_text}
use Rattle.schema_printer.specs.Spelling.{is_schema_word, printed_names_of, spelling}
use Rattle.schema_printer.proofs.MemberLemmas.{members_each}
use Rattle.sql_syntax.specs.Syntax.{Query}
use Rattle.sql_syntax.specs.Statements.{Statement, remark, ask}
use Rattle.sql_check.specs.Columns.{name_at, type_at, column_at}
use Rattle.sql_check.specs.Checks.{required_query, integer_query, rules_of, check_query}
use Rattle.sql_measure.specs.Measures.{measure_query}
use Rattle.script_texts.specs.Queries.{IsTableName, IsQuery}
use Rattle.script_texts.specs.Scripts.{IsStatement, IsScript}
use Rattle.script_laws.specs.Premises.{HasLaterLines}
use Rattle.script_laws.specs.Printed.{asked_after, missing_asked, integer_words, integer_asked, rule_words, rule_asked, checked_rule, measured_rule, check_script, measure_script}
use Rattle.script_laws.proofs.Tests.{all_either}
use Rattle.script_laws.proofs.Lines.{line_of_plain, decimal_plain, at_position}
use Rattle.script_laws.proofs.Checks.{required_is, integer_is, rules_are}
use Rattle.script_laws.proofs.Measures.{measure_is}

-- ---- names
spelled_plain : (naming : Naming) (name : List ℕ) → IsPlain name → IsPlain (spelling naming name)
unfolding spelling
spelled_plain Bare name plain = plain
spelled_plain Any name plain = elim (cases_Bool (is_bare_name name && not (is_schema_word name))) [
  | inl own ↦ rw own plain
  | inr other ↦ rw other (quoted_plain name plain)
]

names_plain : (s : Schema) → All IsName (names_of s) → All IsPlain (names_of s)
names_plain s names = All-weaker IsName IsPlain name_plain (names_of s) names

printed_plain : (s : Schema) → All IsName (names_of s) → All IsPlain (printed_names_of s)
unfolding printed_names_of
printed_plain s names =
    All-map IsPlain (spelling (naming_of s)) (names_of s)
    (All-weaker IsPlain (λ name. IsPlain (spelling (naming_of s) name)) (spelled_plain (naming_of s)) (names_of s)
    (names_plain s names))

-- ---- dependencies
words_plain : (words : List (List ℕ)) → All IsPlain words → IsPlain (words_text words)
words_plain [] all = refl
words_plain (word ∷ words) all =
    plain_both (32 ∷ word) (words_text words) (All-head IsPlain word words all)
    (words_plain words (All-tail IsPlain word words all))

side_plain : (words : List (List ℕ)) → All IsPlain words → IsPlain (side_text words)
side_plain [] all = refl
side_plain (word ∷ words) all =
    plain_both word (words_text words) (All-head IsPlain word words all)
    (words_plain words (All-tail IsPlain word words all))

set_plain : (names : List (List ℕ)) (x : Attributes) → All IsPlain names → IsPlain (set_text names x)
unfolding set_text
set_plain names x all = side_plain (members_from x 0 names) (members_each IsPlain x 0 names all)

dependency_plain : (names : List (List ℕ)) (d : Dependency) → All IsPlain names → IsPlain (dependency_text names d)
unfolding dependency_text
dependency_plain names (fd x y) all =
    plain_both (set_text names x ++ codes " -> ") (set_text names y)
    (plain_both (set_text names x) (codes " -> ") (set_plain names x all) refl) (set_plain names y all)
dependency_plain names (mvd x y) all =
    plain_both (set_text names x ++ codes " ->> ") (set_text names y)
    (plain_both (set_text names x) (codes " ->> ") (set_plain names x all) refl) (set_plain names y all)

rule_plain : (s : Schema) (line : ℕ) (d : Dependency) → All IsName (names_of s) → IsPlain (rule_words s line d)
rule_plain s line d names =
    let printed : List ℕ = dependency_text (printed_names_of s) d in
    plain_both (codes "line " ++ decimal line ++ codes ": ") printed
    (plain_both (codes "line " ++ decimal line) (codes ": ")
    (plain_both (codes "line ") (decimal line) refl (decimal_plain line)) refl)
    (dependency_plain (printed_names_of s) d (printed_plain s names))

-- ---- statements
after_is : (words : List ℕ) (found : Option Query) → IsPlain words → IfSome found IsQuery
    → IsScript (asked_after words found)
after_is words None plain is = All-nil IsStatement
after_is words (Some q) plain is =
    All-cons IsStatement (remark words) (ask q ∷ []) (line_of_plain words plain)
    (All-cons IsStatement (ask q) [] is (All-nil IsStatement))

rule_is : (words : List ℕ) (found : Option Query) → IsPlain words → IfSome found IsQuery
    → IsScript (rule_asked words found)
rule_is words None plain is =
    All-cons IsStatement (remark (words ++ codes " holds always")) []
    (line_of_plain (words ++ codes " holds always") (plain_both words (codes " holds always") plain refl))
    (All-nil IsStatement)
rule_is words (Some q) plain is = after_is words (Some q) plain is

integer_asked_is : (s : Schema) (table : List ℕ) (k : ℕ) → IsTableName table → All IsName (names_of s)
    → IsScript (integer_asked s table k)
integer_asked_is s table k named names =
    let words : List ℕ = integer_words s k in
    let asked : Query = integer_query table (column_at s (codes "r") k) in
    let plain : IsPlain words =
    plain_both (spelling (naming_of s) (name_at s k)) (codes " is an integer")
    (spelled_plain (naming_of s) (name_at s k) (at_position IsPlain (names_of s) [] refl (names_plain s names) k))
    refl in
    all_either IsStatement (is_integer (type_at s k)) (asked_after words (Some asked)) []
    (after_is words (Some asked) plain (integer_is table (column_at s (codes "r") k) named refl)) (All-nil IsStatement)

-- ---- scripts
each_is : {X : Type 0} (make : X → List Statement) (xs : List X) → All (λ x. IsScript (make x)) xs
    → IsScript (flat_map make xs)
each_is make [] all = All-nil IsStatement
each_is make (x ∷ xs) all =
    All-append IsStatement (make x) (flat_map make xs) (All-head (λ y. IsScript (make y)) x xs all)
    (each_is make xs (All-tail (λ y. IsScript (make y)) x xs all))

pub check_script_is : (s : Schema) (table : List ℕ) → IsTableName table → All IsName (names_of s) → HasLaterLines s
    → IsScript (check_script s table)
check_script_is s table named names later =
    let opening : Statement = remark (codes "where all rules hold, no query gives a row") in
    let integers : List Statement = flat_map (integer_asked s table) (range_with_len 0 (width_of s)) in
    let rules : List Statement = flat_map (checked_rule s table) (rules_of s) in
    All-append IsStatement ((opening ∷ missing_asked s table) ++ integers) rules
    (All-append IsStatement (opening ∷ missing_asked s table) integers
    (All-cons IsStatement opening (missing_asked s table) refl
    (after_is (codes "no value is missing") (required_query s table) refl (required_is s table named)))
    (each_is (integer_asked s table) (range_with_len 0 (width_of s))
    (λ k d within. integer_asked_is s table (slice_index_or (range_with_len 0 (width_of s)) k d) named names)))
    (each_is (checked_rule s table) (rules_of s)
    (All-weaker (λ (rule : ℕ × Dependency). IfSome (check_query s table rule.0 rule.1) IsQuery)
    (λ (rule : ℕ × Dependency). IsScript (checked_rule s table rule))
    (λ rule is.
    rule_is (rule_words s rule.0 rule.1) (check_query s table rule.0 rule.1) (rule_plain s rule.0 rule.1 names) is)
    (rules_of s) (rules_are s table named later)))

pub measure_script_is : (s : Schema) (table : List ℕ) → IsTableName table → All IsName (names_of s)
    → IsScript (measure_script s table)
measure_script_is s table named names =
    All-cons IsStatement _ (flat_map (measured_rule s table) (rules_of s)) refl
    (each_is (measured_rule s table) (rules_of s) (λ k d within.
    let rule : ℕ × Dependency = slice_index_or (rules_of s) k d in
    rule_is (rule_words s rule.0 rule.1) (measure_query s table rule.1) (rule_plain s rule.0 rule.1 names)
    (measure_is s table rule.1 named)))
