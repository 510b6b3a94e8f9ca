-- Values are read back from their texts.
use Rattle.std.proofs.Common.{◌≡◌, ◌<◌, ◌^◌, ℕ, zero, suc, Bool, true, false, ◌&&◌, Some, None, List, [], ◌∷◌, ◌++◌, length, drop, refl, sym, ap, ◌∙◌, arith, append_assoc}
use Rattle.std.specs.Prelude.{◌==◌, if◌then◌else◌, codes, decimal, nat_lt}
use Rattle.std.specs.Char.{is_ascii_digit, is_ascii_lowercase}
use Rattle.std.specs.List.{list_all}
use Rattle.std.specs.Str.Parse.{digits_value}
use Rattle.std.proofs.lemmas.Bool.{and_parts, ltb-true, true≢false}
use Rattle.std.proofs.lemmas.Bool.Decides.{nat_tests}
use Rattle.std.proofs.lemmas.Fmt.{decimal_digit, decimal_nonempty, digits_decimal, digits_value-decimal}
use Rattle.schema_model.proofs.NumeralLemmas.{decimal_numeral_model}
use Rattle.sql_syntax.specs.Printing.{column_text, scalar_text}
use Rattle.sql_syntax.specs.Syntax.{Column, Scalar, column, as_text, as_integer, with_empty_text, number_zero, number_one, written_number, missing_value, count, sum, greatest, sum_product, less_sum}
use Rattle.script_texts.specs.Queries.{is_bare_byte, is_column, is_number, is_cast, is_sum, is_scalar}
use Rattle.script_texts.proofs.Follows.{head, after_blank, next, stops, stops_first, stops_rest, stops_parted, four_parts, Read, and_then, read_while, while_reads}
use Rattle.script_texts.proofs.Names.{read_column, column_reads, column_head, parted_parts}
use Rattle.script_texts.proofs.Lists.{ReadsBack, Reads, by_fuel}

-- a value does not go on with ||, - or *
abbrev pub value_stops : List ℕ
value_stops = after_blank 124 ∷ after_blank 45 ∷ after_blank 42 ∷ []

-- ---- readers
abbrev with_text : Scalar → List ℕ → Read Scalar
with_text x text =
    if next text == after_blank 124 then Some (with_empty_text x, drop 6 text) else Some (x, text)

abbrev cast_to : Scalar → List ℕ → Read Scalar
cast_to x text =
    if head (drop 4 text) == 84 then with_text (as_text x) (drop 9 text) else with_text (as_integer x) (drop 11 text)

abbrev less : Scalar → List ℕ → Read Scalar
less x text =
    if next text == after_blank 45 then and_then (read_column (drop 7 text)) (λ c rest. Some (less_sum x c, drop 1 rest))
    else Some (x, text)

abbrev times : Column → List ℕ → Read Scalar
times c text =
    if next text == after_blank 42 then
    and_then (read_column (drop 7 text)) (λ d rest. less (sum_product c d) (drop 1 rest))
    else less (sum c) text

abbrev read_word : (List ℕ → Read Scalar) → List ℕ → Read Scalar
read_word read text =
    if head text == 78 then Some (missing_value, drop 4 text)
    else if head text == 77 then and_then (read_column (drop 4 text)) (λ c rest. Some (greatest c, drop 1 rest))
    else if head text == 83 then and_then (read_column (drop 4 text)) (λ c rest. times c (drop 1 rest))
    else if head (drop 1 text) == 65 then and_then (read (drop 5 text)) cast_to
    else Some (count, drop 8 text)

abbrev number_of : ℕ → Scalar
number_of n = if n == 0 then number_zero else if n == 1 then number_one else written_number n

abbrev read_number : List ℕ → Read Scalar
read_number text = and_then (read_while is_ascii_digit text) (λ digits rest. Some (number_of (digits_value 10 digits), rest))

abbrev read_own : List ℕ → Read Scalar
read_own text = and_then (read_column text) (λ c rest. Some (column c, rest))

abbrev pub read_scalar : ℕ → List ℕ → Read Scalar
read_scalar zero text = None
read_scalar (suc n) text =
    if is_ascii_lowercase (head text) then read_own text
    else if is_ascii_digit (head text) then read_number text
    else read_word (read_scalar n) text

-- ---- columns and numbers
abbrev Back : ℕ → Scalar → Type 0
Back n x = ReadsBack (read_scalar n) value_stops (scalar_text x) x

column_back : (n : ℕ) (c : Column) → is_column c ≡ true → Back (suc n) (column c)
column_back n c is rest ends =
    let text = column_text c ++ rest in
    ap (λ (own : Bool). if own then read_own text else if is_ascii_digit (head text) then read_number text else read_word (read_scalar n) text)
    (column_head c rest is)
    ∙ ap (λ (t : Read Column). and_then t (λ d after. Some (column d, after)))
    (column_reads c rest is (stops_parted value_stops rest ends))

digit_head : (digits rest : List ℕ) → 0 < length digits → list_all is_ascii_digit digits ≡ true
    → is_ascii_digit (head (digits ++ rest)) ≡ true
digit_head [] rest some all = absurd (omega (arith, some))
digit_head (b ∷ digits) rest some all = (and_parts (is_ascii_digit b) (list_all is_ascii_digit digits) all).0

digit_is_not_small : (b : ℕ) → is_ascii_digit b ≡ true → is_ascii_lowercase b ≡ false
digit_is_not_small b is = grind (arith, nat_tests, is)

not_bare_no_digit : (b : ℕ) → is_bare_byte b ≡ false → is_ascii_digit b ≡ false
not_bare_no_digit b is = grind (arith, nat_tests, is)

small_number : (n : ℕ) → is_number n ≡ true → n < 2 ^ 64
small_number n is = ltb-true n (2 ^ 64) (and_parts (nat_lt 1 n) (nat_lt n (2 ^ 64)) is).1

-- the digits of a number are read as the number
digits_back : (m n : ℕ) (rest : List ℕ) → n < 2 ^ 64 → stops value_stops rest ≡ true
    → read_scalar (suc m) (decimal n ++ rest) ≡ Some (number_of n, rest)
digits_back m n rest small ends =
    let digits = digits_decimal decimal_numeral_model n small in
    let text = decimal n ++ rest in
    let first = digit_head (decimal n) rest (decimal_nonempty n small) digits in
    let no_digit = not_bare_no_digit (head rest) (parted_parts rest (stops_parted value_stops rest ends)).0 in
    ap (λ (own : Bool). if own then read_own text else if is_ascii_digit (head text) then read_number text else read_word (read_scalar m) text)
    (digit_is_not_small (head text) first)
    ∙ ap (λ (digit : Bool). if digit then read_number text else read_word (read_scalar m) text) first
    ∙ ap (λ (t : Read (List ℕ)). and_then t (λ found after. Some (number_of (digits_value 10 found), after)))
    (while_reads is_ascii_digit (decimal n) rest digits no_digit)
    ∙ ap (λ (k : ℕ). Some (number_of k, rest)) (digits_value-decimal decimal_numeral_model n small)

zero_back : (m : ℕ) → Back (suc m) number_zero
zero_back m rest ends =
    let digit : decimal 0 ≡ 48 ∷ [] = decimal_digit 0 (omega arith) in
    ap (λ (t : List ℕ). read_scalar (suc m) (t ++ rest)) (sym digit) ∙ digits_back m 0 rest (omega arith) ends

one_back : (m : ℕ) → Back (suc m) number_one
one_back m rest ends =
    let digit : decimal 1 ≡ 49 ∷ [] = decimal_digit 1 (omega arith) in
    ap (λ (t : List ℕ). read_scalar (suc m) (t ++ rest)) (sym digit) ∙ digits_back m 1 rest (omega arith) ends

number_is : (n : ℕ) → is_number n ≡ true → number_of n ≡ written_number n
number_is n is =
    let more = ltb-true 1 n (and_parts (nat_lt 1 n) (nat_lt n (2 ^ 64)) is).0 in
    let not_zero : (n == 0) ≡ false = grind (arith, nat_tests, more) in
    let not_one : (n == 1) ≡ false = grind (arith, nat_tests, more) in
    rw not_zero (rw not_one refl)

number_back : (m n : ℕ) → is_number n ≡ true → Back (suc m) (written_number n)
number_back m n is rest ends =
    digits_back m n rest (small_number n is) ends ∙ ap (λ (x : Scalar). Some (x, rest)) (number_is n is)

pub number_head : (n : ℕ) (rest : List ℕ) → is_number n ≡ true → is_ascii_digit (head (decimal n ++ rest)) ≡ true
number_head n rest is =
    let small = small_number n is in
    digit_head (decimal n) rest (decimal_nonempty n small) (digits_decimal decimal_numeral_model n small)

-- ---- casts
cast_text : (n : ℕ) (x : Scalar) (rest : List ℕ) → Back n x
    → read_scalar (suc n) (scalar_text (as_text x) ++ rest) ≡ with_text (as_text x) rest
cast_text n x rest inner =
    ap (λ (t : List ℕ). and_then (read_scalar n t) cast_to) (append_assoc (scalar_text x) (codes " AS TEXT)") rest)
    ∙ ap (λ (t : Read Scalar). and_then t cast_to) (inner (codes " AS TEXT)" ++ rest) refl)

cast_integer : (n : ℕ) (x : Scalar) (rest : List ℕ) → Back n x
    → read_scalar (suc n) (scalar_text (as_integer x) ++ rest) ≡ with_text (as_integer x) rest
cast_integer n x rest inner =
    ap (λ (t : List ℕ). and_then (read_scalar n t) cast_to) (append_assoc (scalar_text x) (codes " AS BIGINT)") rest)
    ∙ ap (λ (t : Read Scalar). and_then t cast_to) (inner (codes " AS BIGINT)" ++ rest) refl)

without_text : (x : Scalar) (rest : List ℕ) → stops value_stops rest ≡ true → with_text x rest ≡ Some (x, rest)
without_text x rest ends =
    ap (λ (t : Bool). if t then Some (with_empty_text x, drop 6 rest) else Some (x, rest))
    (stops_first (after_blank 124) (after_blank 45 ∷ after_blank 42 ∷ []) rest ends)

text_back : (n : ℕ) (x : Scalar) → Back n x → Back (suc n) (as_text x)
text_back n x inner rest ends = cast_text n x rest inner ∙ without_text (as_text x) rest ends

integer_back : (n : ℕ) (x : Scalar) → Back n x → Back (suc n) (as_integer x)
integer_back n x inner rest ends = cast_integer n x rest inner ∙ without_text (as_integer x) rest ends

empty_after_text : (n : ℕ) (x : Scalar) → Back n x → Back (suc n) (with_empty_text (as_text x))
empty_after_text n x inner rest ends =
    ap (read_scalar (suc n)) (append_assoc (scalar_text (as_text x)) (codes " || ''") rest)
    ∙ cast_text n x (codes " || ''" ++ rest) inner

empty_after_integer : (n : ℕ) (x : Scalar) → Back n x → Back (suc n) (with_empty_text (as_integer x))
empty_after_integer n x inner rest ends =
    ap (read_scalar (suc n)) (append_assoc (scalar_text (as_integer x)) (codes " || ''") rest)
    ∙ cast_integer n x (codes " || ''" ++ rest) inner

-- ---- sums
ends_less : (rest : List ℕ) → stops value_stops rest ≡ true → (next rest == after_blank 45) ≡ false
ends_less rest ends =
    stops_first (after_blank 45) (after_blank 42 ∷ []) rest (stops_rest (after_blank 124) (after_blank 45 ∷ after_blank 42 ∷ []) rest ends)

ends_times : (rest : List ℕ) → stops value_stops rest ≡ true → (next rest == after_blank 42) ≡ false
ends_times rest ends =
    stops_first (after_blank 42) [] rest
    (stops_rest (after_blank 45) (after_blank 42 ∷ []) rest (stops_rest (after_blank 124) (after_blank 45 ∷ after_blank 42 ∷ []) rest ends))

no_less : (x : Scalar) (rest : List ℕ) → stops value_stops rest ≡ true → less x rest ≡ Some (x, rest)
no_less x rest ends =
    ap (λ (t : Bool). if t then and_then (read_column (drop 7 rest)) (λ c after. Some (less_sum x c, drop 1 after)) else Some (x, rest))
    (ends_less rest ends)

less_reads : (x : Scalar) (c : Column) (rest : List ℕ) → is_column c ≡ true
    → less x (codes " - SUM(" ++ (column_text c ++ (codes ")" ++ rest))) ≡ Some (less_sum x c, rest)
less_reads x c rest is =
    ap (λ (t : Read Column). and_then t (λ d after. Some (less_sum x d, drop 1 after))) (column_reads c (codes ")" ++ rest) is refl)

sum_reads : (n : ℕ) (c : Column) (rest : List ℕ) → is_column c ≡ true
    → read_scalar (suc n) (scalar_text (sum c) ++ rest) ≡ times c rest
sum_reads n c rest is =
    ap (λ (t : List ℕ). and_then (read_column t) (λ d after. times d (drop 1 after))) (append_assoc (column_text c) (codes ")") rest)
    ∙ ap (λ (t : Read Column). and_then t (λ d after. times d (drop 1 after))) (column_reads c (codes ")" ++ rest) is refl)

-- the text of a product, as a sum and what follows it
product_text : (c d rest : List ℕ)
    → (codes "SUM(" ++ c ++ codes ") * SUM(" ++ d ++ codes ")") ++ rest
    ≡ (codes "SUM(" ++ c ++ codes ")") ++ (codes " * SUM(" ++ (d ++ (codes ")" ++ rest)))
product_text c d rest = simp append_assoc

product_reads : (n : ℕ) (c d : Column) (rest : List ℕ) → is_column c ≡ true → is_column d ≡ true
    → read_scalar (suc n) (scalar_text (sum_product c d) ++ rest) ≡ less (sum_product c d) rest
product_reads n c d rest is other =
    let tail = codes ")" ++ rest in
    ap (read_scalar (suc n)) (product_text (column_text c) (column_text d) rest)
    ∙ sum_reads n c (codes " * SUM(" ++ (column_text d ++ tail)) is
    ∙ ap (λ (t : Read Column). and_then t (λ e after. less (sum_product c e) (drop 1 after))) (column_reads d tail other refl)

sum_back : (n : ℕ) (c : Column) → is_column c ≡ true → Back (suc n) (sum c)
sum_back n c is rest ends =
    sum_reads n c rest is
    ∙ ap (λ (t : Bool). if t then and_then (read_column (drop 7 rest)) (λ d after. less (sum_product c d) (drop 1 after)) else less (sum c) rest)
    (ends_times rest ends)
    ∙ no_less (sum c) rest ends

product_back : (n : ℕ) (c d : Column) → is_column c ≡ true → is_column d ≡ true → Back (suc n) (sum_product c d)
product_back n c d is other rest ends = product_reads n c d rest is other ∙ no_less (sum_product c d) rest ends

less_sum_back : (n : ℕ) (d c : Column) → is_column d ≡ true → is_column c ≡ true → Back (suc n) (less_sum (sum d) c)
less_sum_back n d c is other rest ends =
    let minus = codes " - SUM(" ++ (column_text c ++ (codes ")" ++ rest)) in
    ap (read_scalar (suc n)) (four_parts (scalar_text (sum d)) (codes " - SUM(") (column_text c) (codes ")") rest)
    ∙ sum_reads n d minus is ∙ less_reads (sum d) c rest other

less_product_back : (n : ℕ) (d e c : Column) → is_column d ≡ true → is_column e ≡ true → is_column c ≡ true
    → Back (suc n) (less_sum (sum_product d e) c)
less_product_back n d e c is second other rest ends =
    let minus = codes " - SUM(" ++ (column_text c ++ (codes ")" ++ rest)) in
    ap (read_scalar (suc n)) (four_parts (scalar_text (sum_product d e)) (codes " - SUM(") (column_text c) (codes ")") rest)
    ∙ product_reads n d e minus is second ∙ less_reads (sum_product d e) c rest other

greatest_back : (n : ℕ) (c : Column) → is_column c ≡ true → Back (suc n) (greatest c)
greatest_back n c is rest ends =
    ap (λ (t : List ℕ). and_then (read_column t) (λ d after. Some (greatest d, drop 1 after))) (append_assoc (column_text c) (codes ")") rest)
    ∙ ap (λ (t : Read Column). and_then t (λ d after. Some (greatest d, drop 1 after))) (column_reads c (codes ")" ++ rest) is refl)

-- ---- all values
abbrev pub ScalarReads : Scalar → Type 0
ScalarReads x = Reads Scalar read_scalar value_stops (scalar_text x) x

without_fuel : (x : Scalar) → ((n : ℕ) → Back (suc n) x) → ScalarReads x
without_fuel x back = by_fuel read_scalar value_stops (scalar_text x) x 0 (λ n fuel. back n)

within : (x y : Scalar) → ((n : ℕ) → Back n x → Back (suc n) y) → ScalarReads x → ScalarReads y
within x y step inner = by_fuel read_scalar value_stops (scalar_text y) y inner.least (λ n fuel. step n (inner.back n fuel))

less_reads_of : (x : Scalar) (c : Column) → is_sum x ≡ true → is_scalar x ≡ true → is_column c ≡ true → ScalarReads (less_sum x c)
less_reads_of (sum d) c summed is other = without_fuel (less_sum (sum d) c) (λ n. less_sum_back n d c is other)
less_reads_of (sum_product d e) c summed is other =
    let both = and_parts (is_column d) (is_column e) is in
    without_fuel (less_sum (sum_product d e) c) (λ n. less_product_back n d e c both.0 both.1 other)
less_reads_of x c summed is other = absurd (true≢false (sym summed))

pub scalar_reads : (x : Scalar) → is_scalar x ≡ true → ScalarReads x
scalar_reads (column c) is = without_fuel (column c) (λ n. column_back n c is)
scalar_reads (as_text x) is = within x (as_text x) (λ n. text_back n x) (scalar_reads x is)
scalar_reads (as_integer x) is = within x (as_integer x) (λ n. integer_back n x) (scalar_reads x is)
scalar_reads (with_empty_text (as_text x)) is =
    within x (with_empty_text (as_text x)) (λ n. empty_after_text n x) (scalar_reads x is)
scalar_reads (with_empty_text (as_integer x)) is =
    within x (with_empty_text (as_integer x)) (λ n. empty_after_integer n x) (scalar_reads x is)
scalar_reads (with_empty_text x) is = absurd (true≢false (sym (and_parts (is_cast x) (is_scalar x) is).0))
scalar_reads number_zero is = without_fuel number_zero zero_back
scalar_reads number_one is = without_fuel number_one one_back
scalar_reads (written_number n) is = without_fuel (written_number n) (λ m. number_back m n is)
scalar_reads missing_value is = without_fuel missing_value (λ n rest ends. refl)
scalar_reads count is = without_fuel count (λ n rest ends. refl)
scalar_reads (sum c) is = without_fuel (sum c) (λ n. sum_back n c is)
scalar_reads (greatest c) is = without_fuel (greatest c) (λ n. greatest_back n c is)
scalar_reads (sum_product c d) is =
    let both = and_parts (is_column c) (is_column d) is in
    without_fuel (sum_product c d) (λ n. product_back n c d both.0 both.1)
scalar_reads (less_sum x c) is =
    let parts = and_parts (is_sum x && is_scalar x) (is_column c) is in
    let first = and_parts (is_sum x) (is_scalar x) parts.0 in
    less_reads_of x c first.0 first.1 parts.1
