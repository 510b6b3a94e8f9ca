-- What a table is created with is read back from its text.
use Rattle.std.proofs.Common.{◌≡◌, ◌≤◌, ◌+◌, ◌-◌, ◌⊎◌, ℕ, zero, suc, Bool, true, false, not, Some, None, List, [], ◌∷◌, ◌++◌, length, take, drop, refl, sym, ap, ◌∙◌, inl, inr, arith, append_assoc, append-nil, length-append, take_at, drop_at}
use Rattle.std.specs.Prelude.{◌==◌, if◌then◌else◌, codes}
use Rattle.std.specs.Char.{is_ascii_lowercase}
use Rattle.std.specs.List.{list_all}
use Rattle.std.specs.Str.{bytes_eq}
use Rattle.std.proofs.lemmas.Bool.{and_from, and_parts, not-true}
use Rattle.std.proofs.lemmas.Bool.Decides.{nat_tests}
use Rattle.sql_syntax.specs.Printing.{name_text, names_text}
use Rattle.sql_syntax.specs.Syntax.{ColumnName, attribute, helper}
use Rattle.sql_syntax.specs.Statements.{Element, column_definition, primary_key, unique_key, foreign_key, element_text, element_lines}
use Rattle.script_texts.specs.Queries.{is_column_name, IsTableName}
use Rattle.script_texts.specs.Scripts.{is_line, ends_with, is_plain_type, IsElement}
use Rattle.script_texts.proofs.Follows.{head, six_parts, Read, and_then, read_while, while_reads}
use Rattle.script_texts.proofs.Names.{read_name, name_reads, bare_head}
use Rattle.script_texts.proofs.Lists.{Each, read_table, table_reads}
use Rattle.script_texts.proofs.Items.{read_names, names_read}

-- ---- readers
-- a byte that ends no line
abbrev pub goes_on : ℕ → Bool
goes_on b = not (b == 10)

abbrev not_null : List ℕ
not_null = codes " NOT NULL"

abbrev definition : ColumnName → List ℕ → Element
definition name bytes =
    if ends_with bytes not_null then column_definition name (take (length bytes - 9) bytes) false
    else column_definition name bytes true

-- a line, which a comma ends where another follows
abbrev type_of : ColumnName → List ℕ → List ℕ → Read Element
type_of name line rest =
    if head (drop 1 rest) == 32 then Some (definition name (take (length line - 1) line), 44 ∷ rest)
    else Some (definition name line, rest)

abbrev read_definition : List ℕ → Read Element
read_definition text = and_then (read_name text) (λ name rest. and_then (read_while goes_on (drop 1 rest)) (type_of name))

abbrev read_foreign : ℕ → List ℕ → Read Element
read_foreign n text =
    and_then (read_names n text)
    (λ names rest. and_then (read_table n (drop 13 rest))
    (λ other after. and_then (read_names n (drop 2 after)) (λ again last. Some (foreign_key names other, drop 1 last))))

abbrev element_of : ℕ → ℕ → List ℕ → Read Element
element_of first n text =
    if first == 80 then and_then (read_names n (drop 13 text)) (λ names rest. Some (primary_key names, drop 1 rest))
    else if first == 85 then and_then (read_names n (drop 8 text)) (λ names rest. Some (unique_key names, drop 1 rest))
    else if first == 70 then read_foreign n (drop 13 text)
    else read_definition text

abbrev read_element : ℕ → List ℕ → Read Element
read_element n text = element_of (head text) n text

abbrev read_more_elements : ℕ → List ℕ → Read (List Element)
read_more_elements zero text = None
read_more_elements (suc n) text =
    if head text == 44 then
    and_then (read_element n (drop 4 text)) (λ e rest. and_then (read_more_elements n rest) (λ es after. Some (e ∷ es, after)))
    else Some ([], text)

abbrev pub read_elements : ℕ → List ℕ → Read (List Element)
read_elements n text =
    if head text == 10 then Some ([], text)
    else and_then (read_element n (drop 2 text)) (λ e rest. and_then (read_more_elements n rest) (λ es after. Some (e ∷ es, after)))

-- ---- columns
-- another element follows, or the bracket that closes
abbrev EndsElement : List ℕ → Type 0
EndsElement rest = ((more : List ℕ) × (rest ≡ 44 ∷ 10 ∷ 32 ∷ more)) ⊎ ((more : List ℕ) × (rest ≡ 10 ∷ 41 ∷ more))

abbrev null_text : Bool → List ℕ
null_text nullable = if nullable then [] else not_null

long_by_nine : (type : List ℕ) → length (type ++ not_null) - 9 ≡ length type
long_by_nine type = let long : length (type ++ not_null) ≡ length type + 9 = length-append type not_null in omega (arith, long)

ends_not_null : (type : List ℕ) → ends_with (type ++ not_null) not_null ≡ true
ends_not_null type = ap (λ (t : List ℕ). bytes_eq t not_null) (drop_at type not_null (length (type ++ not_null) - 9) (sym (long_by_nine type)))

defined : (name : ColumnName) (type : List ℕ) (nullable : Bool) → ends_with type not_null ≡ false
    → definition name (type ++ null_text nullable) ≡ column_definition name type nullable
defined name type true is =
    ap (definition name) (append-nil type)
    ∙ ap (λ (t : Bool). if t then column_definition name (take (length type - 9) type) false else column_definition name type true) is
defined name type false is =
    ap (λ (t : Bool). if t then column_definition name (take (length (type ++ not_null) - 9) (type ++ not_null)) false
    else column_definition name (type ++ not_null) true) (ends_not_null type)
    ∙ ap (λ (t : List ℕ). column_definition name t false) (take_at type not_null (length (type ++ not_null) - 9) (sym (long_by_nine type)))

all_appended : (test : ℕ → Bool) (xs ys : List ℕ) → list_all test xs ≡ true → list_all test ys ≡ true → list_all test (xs ++ ys) ≡ true
all_appended test [] ys first second = second
all_appended test (x ∷ xs) ys first second =
    let parts = and_parts (test x) (list_all test xs) first in
    and_from (test x) (list_all test (xs ++ ys)) parts.0 (all_appended test xs ys parts.1 second)

null_goes_on : (nullable : Bool) → list_all goes_on (null_text nullable) ≡ true
null_goes_on true = refl
null_goes_on false = refl

without_last : (bytes : List ℕ) → take (length (bytes ++ 44 ∷ []) - 1) (bytes ++ 44 ∷ []) ≡ bytes
without_last bytes =
    let long : length (bytes ++ 44 ∷ []) ≡ length bytes + 1 = length-append bytes (44 ∷ []) in
    take_at bytes (44 ∷ []) (length (bytes ++ 44 ∷ []) - 1) (omega (arith, long))

line_reads : (name : ColumnName) (bytes rest : List ℕ) → list_all goes_on bytes ≡ true → EndsElement rest
    → and_then (read_while goes_on (bytes ++ rest)) (type_of name) ≡ Some (definition name bytes, rest)
line_reads name bytes rest all (inl (more, is)) =
    ap (λ (t : List ℕ). and_then (read_while goes_on (bytes ++ t)) (type_of name)) is
    ∙ ap (λ (t : List ℕ). and_then (read_while goes_on t) (type_of name)) (sym (append_assoc bytes (44 ∷ []) (10 ∷ 32 ∷ more)))
    ∙ ap (λ (t : Read (List ℕ)). and_then t (type_of name))
    (while_reads goes_on (bytes ++ 44 ∷ []) (10 ∷ 32 ∷ more) (all_appended goes_on bytes (44 ∷ []) all refl) refl)
    ∙ ap (λ (t : List ℕ). Some (definition name t, 44 ∷ 10 ∷ 32 ∷ more)) (without_last bytes)
    ∙ ap (λ (t : List ℕ). Some (definition name bytes, t)) (sym is)
line_reads name bytes rest all (inr (more, is)) =
    ap (λ (t : List ℕ). and_then (read_while goes_on (bytes ++ t)) (type_of name)) is
    ∙ ap (λ (t : Read (List ℕ)). and_then t (type_of name)) (while_reads goes_on bytes (10 ∷ 41 ∷ more) all refl)
    ∙ ap (λ (t : List ℕ). Some (definition name bytes, t)) (sym is)

definition_reads : (name : ColumnName) (type : List ℕ) (nullable : Bool) (rest : List ℕ) → is_column_name name ≡ true
    → is_plain_type type ≡ true → EndsElement rest
    → read_definition (element_text (column_definition name type nullable) ++ rest) ≡ Some (column_definition name type nullable, rest)
definition_reads name type nullable rest named plain ends =
    let bytes = type ++ null_text nullable in
    let parts = and_parts (is_line type) (not (ends_with type not_null)) plain in
    let go = λ (found : ColumnName) (later : List ℕ). and_then (read_while goes_on (drop 1 later)) (type_of found) in
    ap read_definition (append_assoc (name_text name) (32 ∷ bytes) rest)
    ∙ ap (λ (t : Read ColumnName). and_then t go) (name_reads name (32 ∷ (bytes ++ rest)) named refl)
    ∙ line_reads name bytes rest (all_appended goes_on type (null_text nullable) parts.0 (null_goes_on nullable)) ends
    ∙ ap (λ (e : Element). Some (e, rest)) (defined name type nullable (not-true (ends_with type not_null) parts.1))

not_capital : (b : ℕ) → is_ascii_lowercase b ≡ true → ((b == 80) ≡ false) × ((b == 85) ≡ false) × ((b == 70) ≡ false)
not_capital b is = (grind (arith, nat_tests, is), grind (arith, nat_tests, is), grind (arith, nat_tests, is))

-- no other element begins as a name does
defines : (first n : ℕ) (text : List ℕ) → ((first == 80) ≡ false) × ((first == 85) ≡ false) × ((first == 70) ≡ false)
    → element_of first n text ≡ read_definition text
defines first n text none =
    let no_primary = none.0 in
    let no_unique = none.1 in
    let no_foreign = none.2 in
    rw no_primary (rw no_unique (rw no_foreign refl))

begins_definition : (name : ColumnName) (n : ℕ) (bytes rest : List ℕ) → is_column_name name ≡ true
    → read_element n ((name_text name ++ bytes) ++ rest) ≡ read_definition ((name_text name ++ bytes) ++ rest)
begins_definition (attribute name) n bytes rest is = refl
begins_definition (helper name) n bytes rest is =
    let text = (name ++ bytes) ++ rest in
    let small : is_ascii_lowercase (head text) ≡ true =
    ap (λ (t : List ℕ). is_ascii_lowercase (head t)) (append_assoc name bytes rest) ∙ bare_head name (bytes ++ rest) is in
    defines (head text) n text (not_capital (head text) small)

-- ---- one element
record ElementReads (e : Element) : Type 0 where
  pub least : ℕ
  pub back : (n : ℕ) → least ≤ n → (rest : List ℕ) → EndsElement rest → read_element n (element_text e ++ rest) ≡ Some (e, rest)

foreign_reads : (names : List ColumnName) (other : List ℕ) → list_all is_column_name names ≡ true → (is : IsTableName other) → (n : ℕ)
    → length names + length is.0 ≤ n → (rest : List ℕ)
    → read_element n (element_text (foreign_key names other) ++ rest) ≡ Some (foreign_key names other, rest)
foreign_reads names other are is n fuel rest =
    let listed = names_text names in
    let again = codes " (" ++ (listed ++ (codes ")" ++ rest)) in
    let with_other = λ (found : List ColumnName) (name_of later : List ℕ).
    and_then (read_names n (drop 2 later)) (λ more last. Some (foreign_key found name_of, drop 1 last)) in
    ap (read_foreign n) (six_parts listed (codes ") REFERENCES ") other (codes " (") listed (codes ")") rest)
    ∙ ap (λ (t : Read (List ColumnName)). and_then t (λ found later. and_then (read_table n (drop 13 later)) (with_other found)))
    (names_read names are n (omega (arith, fuel)) (codes " REFERENCES " ++ (other ++ again)))
    ∙ ap (λ (t : Read (List ℕ)). and_then t (with_other names)) (table_reads other is n again (omega (arith, fuel)) refl)
    ∙ ap (λ (t : Read (List ColumnName)). and_then t (λ more last. Some (foreign_key names other, drop 1 last)))
    (names_read names are n (omega (arith, fuel)) rest)

element_reads : (e : Element) → IsElement e → ElementReads e
element_reads (column_definition name type nullable) is = record {
  least = 0;
  back = λ n fuel rest ends.
      begins_definition name n (32 ∷ (type ++ null_text nullable)) rest is.0 ∙ definition_reads name type nullable rest is.0 is.1 ends;
}
element_reads (primary_key names) is = record {
  least = length names;
  back = λ n fuel rest ends.
      ap (λ (t : List ℕ). and_then (read_names n t) (λ found after. Some (primary_key found, drop 1 after))) (append_assoc (names_text names) (codes ")") rest)
      ∙ ap (λ (t : Read (List ColumnName)). and_then t (λ found after. Some (primary_key found, drop 1 after))) (names_read names is n fuel rest);
}
element_reads (unique_key names) is = record {
  least = length names;
  back = λ n fuel rest ends.
      ap (λ (t : List ℕ). and_then (read_names n t) (λ found after. Some (unique_key found, drop 1 after))) (append_assoc (names_text names) (codes ")") rest)
      ∙ ap (λ (t : Read (List ColumnName)). and_then t (λ found after. Some (unique_key found, drop 1 after))) (names_read names is n fuel rest);
}
element_reads (foreign_key names other) is = record {
  least = length names + length is.1.0;
  back = λ n fuel rest ends. foreign_reads names other is.0 is.1 n fuel rest;
}

-- ---- all elements, before the bracket that closes
abbrev closing : List ℕ → List ℕ
closing rest = 10 ∷ 41 ∷ rest

lines_end : (es : List Element) (rest : List ℕ) → EndsElement (element_lines true es ++ closing rest)
lines_end [] rest = inr (rest, refl)
lines_end (e ∷ es) rest = inl (_, refl)

record LinesRead (es : List Element) : Type 0 where
  pub least : ℕ
  pub back : (n : ℕ) → least ≤ n → (rest : List ℕ)
      → read_more_elements n (element_lines true es ++ closing rest) ≡ Some (es, closing rest)

lines_by_fuel : (es : List Element) (least : ℕ)
    → ((n : ℕ) → least ≤ n → (rest : List ℕ) → read_more_elements (suc n) (element_lines true es ++ closing rest) ≡ Some (es, closing rest))
    → LinesRead es
lines_by_fuel es least back = record { least = suc least; back = go }
  where
    go : (n : ℕ) → suc least ≤ n → (rest : List ℕ) → read_more_elements n (element_lines true es ++ closing rest) ≡ Some (es, closing rest)
    go zero fuel rest = absurd (omega (arith, fuel))
    go (suc n) fuel rest = back n (omega (arith, fuel)) rest

abbrev then_more : ℕ → Element → List ℕ → Read (List Element)
then_more n e rest = and_then (read_more_elements n rest) (λ es after. Some (e ∷ es, after))

lines_read : (es : List Element) → Each IsElement es → LinesRead es
lines_read [] each = lines_by_fuel [] 0 (λ n fuel rest. refl)
lines_read (e ∷ es) each =
    let one = element_reads e each.0 in
    let others = lines_read es each.1 in
    lines_by_fuel (e ∷ es) (one.least + others.least) (λ n fuel rest.
    let tail = element_lines true es ++ closing rest in
    ap (λ (t : List ℕ). and_then (read_element n t) (then_more n)) (append_assoc (element_text e) (element_lines true es) (closing rest))
    ∙ ap (λ (t : Read Element). and_then t (then_more n)) (one.back n (omega (arith, fuel)) tail (lines_end es rest))
    ∙ ap (λ (t : Read (List Element)). and_then t (λ found after. Some (e ∷ found, after))) (others.back n (omega (arith, fuel)) rest))

pub record ElementsRead (es : List Element) : Type 0 where
  pub least : ℕ
  pub back : (n : ℕ) → least ≤ n → (rest : List ℕ)
      → read_elements n (element_lines false es ++ closing rest) ≡ Some (es, closing rest)

pub elements_read : (es : List Element) → Each IsElement es → ElementsRead es
elements_read [] each = record { least = 0; back = λ n fuel rest. refl }
elements_read (e ∷ es) each =
    let one = element_reads e each.0 in
    let others = lines_read es each.1 in
    record {
      least = one.least + others.least;
      back = λ n fuel rest.
          let tail = element_lines true es ++ closing rest in
          ap (λ (t : List ℕ). and_then (read_element n t) (then_more n)) (append_assoc (element_text e) (element_lines true es) (closing rest))
          ∙ ap (λ (t : Read Element). and_then t (then_more n)) (one.back n (omega (arith, fuel)) tail (lines_end es rest))
          ∙ ap (λ (t : Read (List Element)). and_then t (λ found after. Some (e ∷ found, after))) (others.back n (omega (arith, fuel)) rest);
    }
