-- What is selected is read back from its text, and so are lists of values and of names.
use Rattle.std.proofs.Common.{◌≡◌, ◌≤◌, ◌+◌, ◌||◌, ◌&&◌, ℕ, Bool, true, false, not, Some, List, [], ◌∷◌, ◌++◌, length, drop, refl, sym, ap, ◌∙◌, arith, append_assoc}
use Rattle.std.specs.Prelude.{◌==◌, if◌then◌else◌, codes}
use Rattle.std.specs.Char.{is_ascii_digit, is_ascii_lowercase}
use Rattle.std.specs.List.{flat_map, list_all}
use Rattle.std.proofs.lemmas.Bool.{and_parts, true≢false}
use Rattle.std.proofs.lemmas.Bool.Decides.{nat_tests}
use Rattle.sql_syntax.specs.Names.{comma_list}
use Rattle.sql_syntax.specs.Printing.{column_text, name_text, names_text, scalar_text, item_text}
use Rattle.sql_syntax.specs.Syntax.{ColumnName, attribute, helper, Column, Scalar, column, as_text, as_integer, with_empty_text, number_zero, number_one, written_number, missing_value, count, sum, greatest, sum_product, less_sum, Item, own, named, unnamed}
use Rattle.script_texts.specs.Queries.{is_column_name, is_column, is_cast, is_sum, is_scalar, is_column_value, is_item}
use Rattle.script_texts.proofs.Follows.{head, after_blank, mark, next, stops_first, stops_rest, stops_parted, three_parts, four_parts, Read, and_then}
use Rattle.script_texts.proofs.Names.{read_name, name_reads, bare_head, read_column, column_head, column_reads}
use Rattle.script_texts.proofs.Lists.{Each, ReadsBack, Between, read_list, list_reads, Reads, EachReads, none_reads, more_read}
use Rattle.script_texts.proofs.Scalars.{value_stops, read_scalar, number_head, scalar_reads}
use Rattle.script_texts.proofs.Conditions.{tests_stops}

-- ---- lists with commas
abbrev pub comma : ℕ
comma = mark 44

pub commas : Between comma 2 tests_stops (codes ", ")
commas = record { next_is = λ rest. refl; past = λ rest. refl; ends = λ rest. refl }

pub name_commas : Between comma 2 [] (codes ", ")
name_commas = record { next_is = λ rest. refl; past = λ rest. refl; ends = λ rest. refl }

-- ---- the first byte of a value
abbrev pub begins_value : ℕ → Bool
begins_value b = is_ascii_lowercase b || is_ascii_digit b || (b == 67) || (b == 77) || (b == 78) || (b == 83)

small_begins : (b : ℕ) → is_ascii_lowercase b ≡ true → begins_value b ≡ true
small_begins b is = grind (arith, nat_tests, is)

digit_begins : (b : ℕ) → is_ascii_digit b ≡ true → begins_value b ≡ true
digit_begins b is = grind (arith, nat_tests, is)

pub scalar_begins : (x : Scalar) (rest : List ℕ) → is_scalar x ≡ true → begins_value (head (scalar_text x ++ rest)) ≡ true
scalar_begins (column c) rest is = small_begins (head (column_text c ++ rest)) (column_head c rest is)
scalar_begins (as_text x) rest is = refl
scalar_begins (as_integer x) rest is = refl
scalar_begins (with_empty_text x) rest is =
    ap (λ (t : List ℕ). begins_value (head t)) (append_assoc (scalar_text x) (codes " || ''") rest)
    ∙ scalar_begins x (codes " || ''" ++ rest) (and_parts (is_cast x) (is_scalar x) is).1
scalar_begins number_zero rest is = refl
scalar_begins number_one rest is = refl
scalar_begins (written_number n) rest is = digit_begins (head (scalar_text (written_number n) ++ rest)) (number_head n rest is)
scalar_begins missing_value rest is = refl
scalar_begins count rest is = refl
scalar_begins (sum c) rest is = refl
scalar_begins (greatest c) rest is = refl
scalar_begins (sum_product c d) rest is = refl
scalar_begins (less_sum x c) rest is =
    let minus = codes " - SUM(" ++ (column_text c ++ (codes ")" ++ rest)) in
    let parts = and_parts (is_sum x && is_scalar x) (is_column c) is in
    ap (λ (t : List ℕ). begins_value (head t)) (four_parts (scalar_text x) (codes " - SUM(") (column_text c) (codes ")") rest)
    ∙ scalar_begins x minus (and_parts (is_sum x) (is_scalar x) parts.0).1

pub item_begins : (i : Item) (rest : List ℕ) → is_item i ≡ true → begins_value (head (item_text i ++ rest)) ≡ true
item_begins (own c) rest is = scalar_begins (column c) rest is
item_begins (named x name) rest is =
    ap (λ (t : List ℕ). begins_value (head t)) (three_parts (scalar_text x) (codes " AS ") (name_text name) rest)
    ∙ scalar_begins x (codes " AS " ++ (name_text name ++ rest)) (and_parts (is_scalar x) (is_column_name name) is).0
item_begins (unnamed x) rest is = scalar_begins x rest (and_parts (is_scalar x) (not (is_column_value x)) is).0

-- ---- one of what is selected
abbrev alone : Scalar → Item
alone (column c) = own c
alone x = unnamed x

abbrev item_of : Scalar → List ℕ → Read Item
item_of x text =
    if next text == after_blank 65 then and_then (read_name (drop 4 text)) (λ name rest. Some (named x name, rest))
    else Some (alone x, text)

abbrev pub read_item : ℕ → List ℕ → Read Item
read_item n text = and_then (read_scalar n text) item_of

abbrev ItemReads : Item → Type 0
ItemReads i = Reads Item read_item tests_stops (item_text i) i

alone_reads : (x : Scalar) (n : ℕ) → ReadsBack (read_scalar n) value_stops (scalar_text x) x
    → ReadsBack (read_item n) tests_stops (scalar_text x) (alone x)
alone_reads x n back rest ends =
    ap (λ (t : Read Scalar). and_then t item_of) (back rest (stops_rest (after_blank 65) value_stops rest ends))
    ∙ ap (λ (t : Bool). if t then and_then (read_name (drop 4 rest)) (λ name after. Some (named x name, after)) else Some (alone x, rest))
    (stops_first (after_blank 65) value_stops rest ends)

alone_is : (x : Scalar) → not (is_column_value x) ≡ true → alone x ≡ unnamed x
alone_is (column c) is = absurd (true≢false (sym is))
alone_is x is = refl

unnamed_reads : (x : Scalar) (n : ℕ) → alone x ≡ unnamed x → ReadsBack (read_scalar n) value_stops (scalar_text x) x
    → ReadsBack (read_item n) tests_stops (scalar_text x) (unnamed x)
unnamed_reads x n is back rest ends = alone_reads x n back rest ends ∙ ap (λ (i : Item). Some (i, rest)) is

named_reads : (x : Scalar) (name : ColumnName) (n : ℕ) → is_column_name name ≡ true → ReadsBack (read_scalar n) value_stops (scalar_text x) x
    → ReadsBack (read_item n) tests_stops (item_text (named x name)) (named x name)
named_reads x name n is back rest ends =
    ap (read_item n) (three_parts (scalar_text x) (codes " AS ") (name_text name) rest)
    ∙ ap (λ (t : Read Scalar). and_then t item_of) (back (codes " AS " ++ (name_text name ++ rest)) refl)
    ∙ ap (λ (t : Read ColumnName). and_then t (λ found after. Some (named x found, after)))
    (name_reads name rest is (stops_parted tests_stops rest ends))

item_reads : (i : Item) → is_item i ≡ true → ItemReads i
item_reads (own c) is =
    let inner = scalar_reads (column c) is in
    record { least = inner.least; back = λ n fuel. alone_reads (column c) n (inner.back n fuel) }
item_reads (named x name) is =
    let parts = and_parts (is_scalar x) (is_column_name name) is in
    let inner = scalar_reads x parts.0 in
    record { least = inner.least; back = λ n fuel. named_reads x name n parts.1 (inner.back n fuel) }
item_reads (unnamed x) is =
    let parts = and_parts (is_scalar x) (not (is_column_value x)) is in
    let inner = scalar_reads x parts.0 in
    record { least = inner.least; back = λ n fuel. unnamed_reads x n (alone_is x parts.1) (inner.back n fuel) }

each_item_reads : (items : List Item) → list_all is_item items ≡ true → EachReads Item read_item tests_stops item_text items
each_item_reads [] are = none_reads read_item tests_stops item_text
each_item_reads (i ∷ items) are =
    let parts = and_parts (is_item i) (list_all is_item items) are in
    more_read read_item tests_stops item_text i items (item_reads i parts.0) (each_item_reads items parts.1)

-- ---- all of it: nothing where a blank follows
abbrev pub read_items : ℕ → List ℕ → Read (List Item)
read_items n text = if head text == 32 then Some ([], text) else read_list (read_item n) comma 2 n text

abbrev pub items_stops : List ℕ
items_stops = comma ∷ tests_stops

no_blank : (b : ℕ) → begins_value b ≡ true → (b == 32) ≡ false
no_blank b is = grind (arith, nat_tests, is)

pub items_read : (i : Item) (items : List Item) → list_all is_item (i ∷ items) ≡ true
    → Reads (List Item) read_items items_stops (comma_list item_text (i ∷ items)) (i ∷ items)
items_read i items are =
    let each = each_item_reads (i ∷ items) are in
    let after = flat_map (λ (j : Item). codes ", " ++ item_text j) items in
    record {
      least = each.least + length items + 1;
      back = λ n fuel rest ends.
          let text = (item_text i ++ after) ++ rest in
          let first : (head text == 32) ≡ false =
          ap (λ (t : List ℕ). head t == 32) (append_assoc (item_text i) after rest)
          ∙ no_blank (head (item_text i ++ (after ++ rest))) (item_begins i (after ++ rest) (and_parts (is_item i) (list_all is_item items) are).0) in
          ap (λ (t : Bool). if t then Some ([], text) else read_list (read_item n) comma 2 n text) first
          ∙ list_reads Item (read_item n) item_text comma 2 tests_stops (codes ", ") commas i items n rest (omega (arith, fuel))
          (each.back n (omega (arith, fuel))) ends;
    }

-- ---- columns by which is grouped
each_column_reads : (columns : List Column) → list_all is_column columns ≡ true
    → Each (λ c. ReadsBack read_column [] (column_text c) c) columns
each_column_reads [] are = tt
each_column_reads (c ∷ columns) are =
    let parts = and_parts (is_column c) (list_all is_column columns) are in
    (λ rest ends. column_reads c rest parts.0 ends, each_column_reads columns parts.1)

abbrev pub read_columns : ℕ → List ℕ → Read (List Column)
read_columns n text = read_list read_column comma 2 n text

pub columns_read : (c : Column) (columns : List Column) → list_all is_column (c ∷ columns) ≡ true
    → Reads (List Column) read_columns (comma ∷ []) (comma_list column_text (c ∷ columns)) (c ∷ columns)
columns_read c columns are = record {
  least = length columns + 1;
  back = λ n fuel rest ends.
      list_reads Column read_column column_text comma 2 [] (codes ", ") name_commas c columns n rest (omega (arith, fuel))
      (each_column_reads (c ∷ columns) are) ends;
}

-- ---- names: none where a bracket closes
pub each_name_reads : (names : List ColumnName) → list_all is_column_name names ≡ true
    → Each (λ name. ReadsBack read_name [] (name_text name) name) names
each_name_reads [] are = tt
each_name_reads (name ∷ names) are =
    let parts = and_parts (is_column_name name) (list_all is_column_name names) are in
    (λ rest ends. name_reads name rest parts.0 ends, each_name_reads names parts.1)

abbrev pub read_names : ℕ → List ℕ → Read (List ColumnName)
read_names n text = if head text == 41 then Some ([], text) else read_list read_name comma 2 n text

no_bracket : (b : ℕ) → is_ascii_lowercase b ≡ true → (b == 41) ≡ false
no_bracket b is = grind (arith, nat_tests, is)

name_no_bracket : (name : ColumnName) (rest : List ℕ) → is_column_name name ≡ true → (head (name_text name ++ rest) == 41) ≡ false
name_no_bracket (attribute name) rest is = refl
name_no_bracket (helper name) rest is = no_bracket (head (name ++ rest)) (bare_head name rest is)

-- names before a bracket
pub names_read : (names : List ColumnName) → list_all is_column_name names ≡ true → (n : ℕ) → length names ≤ n → (rest : List ℕ)
    → read_names n (names_text names ++ 41 ∷ rest) ≡ Some (names, 41 ∷ rest)
names_read [] are n fuel rest = refl
names_read (name ∷ names) are n fuel rest =
    let after = flat_map (λ (other : ColumnName). codes ", " ++ name_text other) names in
    let text = (name_text name ++ after) ++ 41 ∷ rest in
    let first : (head text == 41) ≡ false =
    ap (λ (t : List ℕ). head t == 41) (append_assoc (name_text name) after (41 ∷ rest))
    ∙ name_no_bracket name (after ++ 41 ∷ rest) (and_parts (is_column_name name) (list_all is_column_name names) are).0 in
    ap (λ (t : Bool). if t then Some ([], text) else read_list read_name comma 2 n text) first
    ∙ list_reads ColumnName read_name name_text comma 2 [] (codes ", ") name_commas name names n (41 ∷ rest) (omega (arith, fuel))
    (each_name_reads (name ∷ names) are) refl
