-- Numbers, and the words of the types of columns, have no line feed.
use Rattle.std.proofs.Common.{◌≡◌, ◌+◌, ◌/◌, ◌%◌, ◌==◌, ℕ, zero, suc, Bool, true, false, cond, List, [], ◌∷◌, Option, Some, None, refl, arith}
use Rattle.std.specs.Prelude.{codes, nat_lt}
use Rattle.std.specs.Fmt.{decimal, digit_glyph, digits, digits_onto}
use Rattle.std.specs.List.{list_any}
use Rattle.std.proofs.lemmas.Bool.{ne_eqb, or_from}
use Rattle.schema_model.specs.Columns.{is_column_type}
use Rattle.schema_model.specs.Names.{quoted}
use Rattle.schema_model.specs.declared.column_type.ColumnType.{ColumnType}
use Rattle.schema_model.specs.declared.column_type.ColumnType.TheVariants.{Text, Integer, Date, Timestamp, Decimal, Uuid, Other}
use Rattle.schema_model.proofs.NameLemmas.{type_text_is_name}
use Rattle.schema_model.proofs.PlainLemmas.{IsPlain, name_plain, plain_both, quoted_plain}
use Rattle.schema_printer.specs.Printing.{type_word}
use Rattle.desk_responses.specs.Lines.{line_number_text}

-- ---- numbers
glyph_plain : (d : ℕ) → (digit_glyph false d == 10) ≡ false
glyph_plain d = by (nat_lt d 10)
  where
    by : (low : Bool) → (cond low (48 + d) (87 + d) == 10) ≡ false
    by true = ne_eqb (48 + d) 10 (λ same. omega (arith, same))
    by false = ne_eqb (87 + d) 10 (λ same. omega (arith, same))

either_plain : (b : Bool) (one other : List ℕ) → IsPlain one → IsPlain other → IsPlain (cond b one other)
either_plain true one other first second = first
either_plain false one other first second = second

digits_plain : (most n : ℕ) (later : List ℕ) → IsPlain later → IsPlain (digits_onto most 10 false n later)
digits_plain zero n later plain = plain
digits_plain (suc most) n later plain =
    let glyph : ℕ = digit_glyph false (n % 10) in
    let led : IsPlain (glyph ∷ later) = or_from (glyph == 10) (list_any (λ b. b == 10) later) (glyph_plain (n % 10)) plain in
    either_plain (n / 10 == 0) (glyph ∷ later) (digits_onto most 10 false (n / 10) (glyph ∷ later)) led
    (digits_plain most (n / 10) (glyph ∷ later) led)

pub decimal_plain : (n : ℕ) → IsPlain (decimal n)
unfolding digits
decimal_plain n = digits_plain 64 n [] refl

-- the number of a line, where there is one
pub number_plain : (found : Option ℕ) → IsPlain (line_number_text found)
number_plain None = refl
number_plain (Some at) = decimal_plain at

-- ---- types of columns
pub type_plain : (column : ColumnType) → is_column_type column ≡ true → IsPlain (type_word column)
type_plain Text is = refl
type_plain Integer is = refl
type_plain Date is = refl
type_plain Timestamp is = refl
type_plain (Decimal scale) is = plain_both (codes "decimal ") (decimal scale) refl (decimal_plain scale)
type_plain Uuid is = refl
type_plain (Other text) is =
    plain_both (codes "other ") (quoted text) refl (quoted_plain text (name_plain text (type_text_is_name text is)))
