-- Tests of values are read back from their texts.
use Rattle.std.proofs.Common.{◌≡◌, ◌+◌, ℕ, zero, suc, Bool, true, Some, None, List, ◌∷◌, ◌++◌, drop, refl, ap, ◌∙◌, sym, arith, append_assoc}
use Rattle.std.specs.Prelude.{◌==◌, if◌then◌else◌, codes}
use Rattle.std.proofs.lemmas.Bool.{and_parts, true≢false}
use Rattle.sql_syntax.specs.Printing.{scalar_text, condition_text}
use Rattle.sql_syntax.specs.Syntax.{Scalar, Condition, is_missing, is_present, differs, equals, exceeds, either, both}
use Rattle.script_texts.specs.Queries.{is_scalar, is_test, are_tests, is_condition}
use Rattle.script_texts.proofs.Follows.{head, after_blank, next, stops, stops_first, stops_rest, three_parts, Read, and_then}
use Rattle.script_texts.proofs.Lists.{ReadsBack, Reads, by_fuel}
use Rattle.script_texts.proofs.Scalars.{value_stops, read_scalar, ScalarReads, scalar_reads}

-- nor do tests go on with AND, nor a condition with OR
abbrev pub tests_stops : List ℕ
tests_stops = after_blank 65 ∷ value_stops

abbrev pub condition_stops : List ℕ
condition_stops = after_blank 79 ∷ tests_stops

-- ---- readers
abbrev test_of : ℕ → Scalar → List ℕ → Read Condition
test_of n x text =
    if next text == after_blank 73 then
    (if head (drop 5 text) == 85 then Some (is_missing x, drop 8 text) else Some (is_present x, drop 12 text))
    else if next text == after_blank 60 then and_then (read_scalar n (drop 4 text)) (λ y rest. Some (differs x y, rest))
    else if next text == after_blank 61 then and_then (read_scalar n (drop 3 text)) (λ y rest. Some (equals x y, rest))
    else and_then (read_scalar n (drop 3 text)) (λ y rest. Some (exceeds x y, rest))

abbrev read_test : ℕ → List ℕ → Read Condition
read_test n text = and_then (read_scalar n text) (test_of n)

abbrev read_tests : ℕ → List ℕ → Read Condition
read_tests zero text = None
read_tests (suc n) text =
    and_then (read_test n text)
    (λ p rest. if next rest == after_blank 65 then and_then (read_tests n (drop 5 rest)) (λ q after. Some (both p q, after)) else Some (p, rest))

abbrev pub read_condition : ℕ → List ℕ → Read Condition
read_condition zero text = None
read_condition (suc n) text =
    and_then (read_tests n text)
    (λ p rest. if next rest == after_blank 79 then and_then (read_condition n (drop 4 rest)) (λ q after. Some (either p q, after)) else Some (p, rest))

-- ---- one test
abbrev TestReads : Condition → Type 0
TestReads p = Reads Condition read_test value_stops (condition_text p) p

-- after a value and what follows it
value_then : (n : ℕ) (x : Scalar) (more rest : List ℕ) → ReadsBack (read_scalar n) value_stops (scalar_text x) x
    → stops value_stops (more ++ rest) ≡ true
    → read_test n ((scalar_text x ++ more) ++ rest) ≡ test_of n x (more ++ rest)
value_then n x more rest back ends =
    ap (read_test n) (append_assoc (scalar_text x) more rest)
    ∙ ap (λ (t : Read Scalar). and_then t (test_of n)) (back (more ++ rest) ends)

-- after a value, what compares it, and another value
values_then : (n : ℕ) (x : Scalar) (sign other rest : List ℕ) → ReadsBack (read_scalar n) value_stops (scalar_text x) x
    → stops value_stops (sign ++ (other ++ rest)) ≡ true
    → read_test n ((scalar_text x ++ sign ++ other) ++ rest) ≡ test_of n x (sign ++ (other ++ rest))
values_then n x sign other rest back ends =
    ap (read_test n) (three_parts (scalar_text x) sign other rest)
    ∙ ap (λ (t : Read Scalar). and_then t (test_of n)) (back (sign ++ (other ++ rest)) ends)

one_value : (x : Scalar) (p : Condition) → ScalarReads x
    → ((n : ℕ) → ReadsBack (read_scalar n) value_stops (scalar_text x) x → ReadsBack (read_test n) value_stops (condition_text p) p) → TestReads p
one_value x p inner step = record { least = inner.least; back = λ n fuel. step n (inner.back n fuel) }

two_values : (x y : Scalar) (p : Condition) → ScalarReads x → ScalarReads y
    → ((n : ℕ) → ReadsBack (read_scalar n) value_stops (scalar_text x) x → ReadsBack (read_scalar n) value_stops (scalar_text y) y
    → ReadsBack (read_test n) value_stops (condition_text p) p) → TestReads p
two_values x y p first second step = record {
  least = first.least + second.least;
  back = λ n fuel. step n (first.back n (omega (arith, fuel))) (second.back n (omega (arith, fuel)));
}

test_reads : (p : Condition) → is_test p ≡ true → TestReads p
test_reads (is_missing x) is = one_value x (is_missing x) (scalar_reads x is) (λ n back rest ends. value_then n x (codes " IS NULL") rest back refl)
test_reads (is_present x) is = one_value x (is_present x) (scalar_reads x is) (λ n back rest ends. value_then n x (codes " IS NOT NULL") rest back refl)
test_reads (differs x y) is =
    let both_are = and_parts (is_scalar x) (is_scalar y) is in
    two_values x y (differs x y) (scalar_reads x both_are.0) (scalar_reads y both_are.1)
    (λ n first second rest ends. values_then n x (codes " <> ") (scalar_text y) rest first refl
    ∙ ap (λ (t : Read Scalar). and_then t (λ z after. Some (differs x z, after))) (second rest ends))
test_reads (equals x y) is =
    let both_are = and_parts (is_scalar x) (is_scalar y) is in
    two_values x y (equals x y) (scalar_reads x both_are.0) (scalar_reads y both_are.1)
    (λ n first second rest ends. values_then n x (codes " = ") (scalar_text y) rest first refl
    ∙ ap (λ (t : Read Scalar). and_then t (λ z after. Some (equals x z, after))) (second rest ends))
test_reads (exceeds x y) is =
    let both_are = and_parts (is_scalar x) (is_scalar y) is in
    two_values x y (exceeds x y) (scalar_reads x both_are.0) (scalar_reads y both_are.1)
    (λ n first second rest ends. values_then n x (codes " > ") (scalar_text y) rest first refl
    ∙ ap (λ (t : Read Scalar). and_then t (λ z after. Some (exceeds x z, after))) (second rest ends))
test_reads (either p q) is = absurd (true≢false (sym is))
test_reads (both p q) is = absurd (true≢false (sym is))

-- ---- tests with AND between
abbrev TestsRead : Condition → Type 0
TestsRead p = Reads Condition read_tests tests_stops (condition_text p) p

abbrev more_tests : ℕ → Condition → List ℕ → Read Condition
more_tests n p rest =
    if next rest == after_blank 65 then and_then (read_tests n (drop 5 rest)) (λ q after. Some (both p q, after)) else Some (p, rest)

last_test : (p : Condition) → TestReads p → TestsRead p
last_test p one = by_fuel read_tests tests_stops (condition_text p) p one.least (λ n fuel rest ends.
    ap (λ (t : Read Condition). and_then t (more_tests n)) (one.back n fuel rest (stops_rest (after_blank 65) value_stops rest ends))
    ∙ ap (λ (t : Bool). if t then and_then (read_tests n (drop 5 rest)) (λ q after. Some (both p q, after)) else Some (p, rest))
    (stops_first (after_blank 65) value_stops rest ends))

tests_read : (p : Condition) → are_tests p ≡ true → TestsRead p
tests_read (both p q) is =
    let parts = and_parts (is_test p) (are_tests q) is in
    let one = test_reads p parts.0 in
    let rest_read = tests_read q parts.1 in
    by_fuel read_tests tests_stops (condition_text (both p q)) (both p q) (one.least + rest_read.least) (λ n fuel rest ends.
    ap (read_tests (suc n)) (three_parts (condition_text p) (codes " AND ") (condition_text q) rest)
    ∙ ap (λ (t : Read Condition). and_then t (more_tests n))
    (one.back n (omega (arith, fuel)) (codes " AND " ++ (condition_text q ++ rest)) refl)
    ∙ ap (λ (t : Read Condition). and_then t (λ r after. Some (both p r, after))) (rest_read.back n (omega (arith, fuel)) rest ends))
tests_read p is = last_test p (test_reads p is)

-- ---- conditions
abbrev pub ConditionReads : Condition → Type 0
ConditionReads p = Reads Condition read_condition condition_stops (condition_text p) p

abbrev more_either : ℕ → Condition → List ℕ → Read Condition
more_either n p rest =
    if next rest == after_blank 79 then and_then (read_condition n (drop 4 rest)) (λ q after. Some (either p q, after)) else Some (p, rest)

last_tests : (p : Condition) → TestsRead p → ConditionReads p
last_tests p one = by_fuel read_condition condition_stops (condition_text p) p one.least (λ n fuel rest ends.
    ap (λ (t : Read Condition). and_then t (more_either n)) (one.back n fuel rest (stops_rest (after_blank 79) tests_stops rest ends))
    ∙ ap (λ (t : Bool). if t then and_then (read_condition n (drop 4 rest)) (λ q after. Some (either p q, after)) else Some (p, rest))
    (stops_first (after_blank 79) tests_stops rest ends))

pub condition_reads : (p : Condition) → is_condition p ≡ true → ConditionReads p
condition_reads (either p q) is =
    let parts = and_parts (are_tests p) (is_condition q) is in
    let one = tests_read p parts.0 in
    let rest_read = condition_reads q parts.1 in
    by_fuel read_condition condition_stops (condition_text (either p q)) (either p q) (one.least + rest_read.least) (λ n fuel rest ends.
    ap (read_condition (suc n)) (three_parts (condition_text p) (codes " OR ") (condition_text q) rest)
    ∙ ap (λ (t : Read Condition). and_then t (more_either n))
    (one.back n (omega (arith, fuel)) (codes " OR " ++ (condition_text q ++ rest)) refl)
    ∙ ap (λ (t : Read Condition). and_then t (λ r after. Some (either p r, after))) (rest_read.back n (omega (arith, fuel)) rest ends))
condition_reads p is = last_tests p (tests_read p is)
