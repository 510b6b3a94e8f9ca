-- What stands for a value in an INSERT line tells the value, also that it is missing.
use Rattle.std.proofs.Common.{◌≡◌, ℕ, Bool, true, false, List, [], ◌∷◌, ◌++◌, Result, Ok, Err, refl, sym, ap, ◌∙◌, arith}
use Rattle.std.specs.Prelude.{◌&&◌, if◌then◌else◌, codes}
use Rattle.std.proofs.lemmas.Bool.{and_parts, true≢false}
use Rattle.std.proofs.lemmas.List.{append_cancel_right}
use Rattle.hex.specs.Hex.{IsBytes, encode_upper, decode_of}
use Rattle.hex.specs.declared.error.FromHexError.{FromHexError}
use Rattle.hex.proofs.HexLemmas.{decode_of-encode_upper}
use Rattle.destinations.specs.Sql.{quoted_text, is_sql_text, sql_value, is_empty_text, sql_cell}
use Rattle.table_laws.proofs.QuotedTexts.{texts_tell_values}

abbrev first_of : List ℕ → ℕ
first_of [] = 0
first_of (x ∷ xs) = x

abbrev rest_of : List ℕ → List ℕ
rest_of [] = []
rest_of (x ∷ xs) = xs

-- a value as a text, or its bytes in hexadecimal digits
abbrev text_as : Bool → List ℕ → List ℕ
text_as as_text value = if as_text then quoted_text value else codes "X'" ++ encode_upper value ++ codes "'"

bytes_of : Result (List ℕ) FromHexError → List ℕ
bytes_of (Ok bytes) = bytes
bytes_of (Err e) = []

-- hexadecimal digits tell the bytes
digits_tell : (one other : List ℕ) → IsBytes one → IsBytes other → encode_upper one ≡ encode_upper other → one ≡ other
unfolding bytes_of
digits_tell one other first second same =
    ap bytes_of (sym (decode_of-encode_upper one first) ∙ ap decode_of same ∙ decode_of-encode_upper other second)

same_value : (one other : List ℕ) → IsBytes one → IsBytes other → (p q : Bool) → text_as p one ≡ text_as q other
    → one ≡ other
same_value one other first second true true same = texts_tell_values one other same
same_value one other first second true false same =
    let bytes : 39 ≡ 88 = ap first_of same in absurd (omega (arith, bytes))
same_value one other first second false true same =
    let bytes : 88 ≡ 39 = ap first_of same in absurd (omega (arith, bytes))
same_value one other first second false false same =
    digits_tell one other first second
    (ap (λ (text : List ℕ). rest_of (rest_of text))
    (append_cancel_right (codes "X'" ++ encode_upper one) (codes "X'" ++ encode_upper other) (codes "'") same))

pub values_tell : (one other : List ℕ) → IsBytes one → IsBytes other → sql_value one ≡ sql_value other → one ≡ other
values_tell one other first second same = same_value one other first second (is_sql_text one) (is_sql_text other) same

-- a value is not written as the missing one is
not_null : (p : Bool) (value : List ℕ) → codes "NULL" ≡ text_as p value → ⊥
not_null true value same = let bytes : 78 ≡ 39 = ap first_of same in omega (arith, bytes)
not_null false value same = let bytes : 78 ≡ 88 = ap first_of same in omega (arith, bytes)

empty_is : (value : List ℕ) → is_empty_text value ≡ true → value ≡ []
empty_is [] is = refl
empty_is (x ∷ value) is = absurd (true≢false (sym is))

-- what stands for a value that is missing or not
abbrev cell_as : Bool → List ℕ → List ℕ
cell_as missing value = if missing then codes "NULL" else sql_value value

same_cell : (nullable : Bool) (one other : List ℕ) → IsBytes one → IsBytes other → (p q : Bool)
    → (nullable && is_empty_text one) ≡ p → (nullable && is_empty_text other) ≡ q
    → cell_as p one ≡ cell_as q other → one ≡ other
same_cell nullable one other first second true true p_is q_is same =
    empty_is one (and_parts nullable (is_empty_text one) p_is).1
    ∙ sym (empty_is other (and_parts nullable (is_empty_text other) q_is).1)
same_cell nullable one other first second true false p_is q_is same =
    absurd (not_null (is_sql_text other) other same)
same_cell nullable one other first second false true p_is q_is same =
    absurd (not_null (is_sql_text one) one (sym same))
same_cell nullable one other first second false false p_is q_is same = values_tell one other first second same

pub cells_tell : (nullable : Bool) (one other : List ℕ) → IsBytes one → IsBytes other
    → sql_cell nullable one ≡ sql_cell nullable other → one ≡ other
cells_tell nullable one other first second same =
    same_cell nullable one other first second (nullable && is_empty_text one) (nullable && is_empty_text other) refl refl
    same
