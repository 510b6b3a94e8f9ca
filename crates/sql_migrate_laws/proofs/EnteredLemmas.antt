-- The values of a relation as the tables of a design have them.
use Rattle.std.proofs.Common.{◌≡◌, ◌<◌, ℕ, Bool, true, false, List, Some, None, Option, refl, sym, ap, subst, ◌∙◌, inl, inr, arith}
use Rattle.std.proofs.lemmas.Bool.{cases_Bool, true≢false}
use Rattle.std.proofs.lemmas.Bool.Decides.{Decides-int_eq, nat_tests}
use Rattle.std.specs.Ordering.{int_eq}
use Rattle.std.specs.Prelude.{Contains, if◌then◌else◌, option_map}
use Rattle.std.specs.Str.{bytes_eq}
use Rattle.schema_model.specs.declared.column_type.ColumnType.{ColumnType}
use Rattle.schema_model.specs.declared.column_type.ColumnType.TheVariants.{Text, Integer, Date, Timestamp, Decimal, Uuid, Other}
use Rattle.schema_model.specs.Schemas.{Schema}
use Rattle.schema_model.specs.Columns.{is_plain_type}
use Rattle.schema_model.specs.Schemas.{width_of, nullable_of}
use Rattle.dep_model.specs.Tuples.{Tuple, Relation, value_at}
use Rattle.schema_printer.specs.Printing.{is_integer}
use Rattle.sql_check.specs.Columns.{type_at}
use Rattle.sql_evaluation.specs.Cells.{Cell, missing, text, number, integer_text, text_of, integer_of, equal, is_none}
use Rattle.sql_evaluation.specs.Running.{Cast}
use Rattle.sql_check_laws.specs.HeldRelations.{compared_cell, AreApart, CastsIntegers}
use Rattle.sql_check_laws.specs.CheckedRules.{NoneMissing, IsIntegerCell, AreIntegers}
use Rattle.sql_check_laws.proofs.ColumnLemmas.{bytes_same, bytes_self}
use Rattle.sql_check_laws.proofs.RowLemmas.{none_is_not_some, some_is}
use Rattle.sql_migrate_laws.specs.Moved.{copied_cell, entered_cell}
use Rattle.sql_migrate_laws.specs.Ending.{AreComparable}

abbrev pub Cells : Type 0
Cells = ℕ → List ℕ → Cell

-- ---- equal values
pub equal-same : (a b : Cell) → equal a b ≡ Some true → a ≡ b
equal-same missing b e = absurd (true≢false (sym (some_is false true e)))
equal-same (text a) missing e = absurd (true≢false (sym (some_is false true e)))
equal-same (text a) (text b) e = ap text ((bytes_same a b).0 (some_is (bytes_eq a b) true e))
equal-same (text a) (number n) e = absurd (none_is_not_some true e)
equal-same (number m) missing e = absurd (true≢false (sym (some_is false true e)))
equal-same (number m) (text b) e = absurd (none_is_not_some true e)
equal-same (number m) (number n) e = ap number ((Decides-int_eq m n).0 (some_is (int_eq m n) true e))

pub equal-self : (a : Cell) → is_none a ≡ false → equal a a ≡ Some true
equal-self missing e = absurd (true≢false e)
equal-self (text a) e = ap (λ (b : Bool). Some b) (bytes_self a)
equal-self (number n) e = ap (λ (b : Bool). Some b) ((Decides-int_eq n n).1 refl)

twice_text : (x : Cell) → text_of (text_of x) ≡ text_of x
twice_text missing = refl
twice_text (text t) = refl
twice_text (number n) = refl

pub none_text : (x : Cell) → is_none (text_of x) ≡ is_none x
none_text missing = refl
none_text (text t) = refl
none_text (number n) = refl

pub none_is_missing : (x : Cell) → is_none x ≡ true → x ≡ missing
none_is_missing missing e = refl
none_is_missing (text t) e = absurd (true≢false (sym e))
none_is_missing (number n) e = absurd (true≢false (sym e))

-- a value is missing in the copy where it is in the user's table
pub copied_none : (s : Schema) (cell : Cells) (k : ℕ) (v : List ℕ) → is_none (copied_cell s cell k v) ≡ is_none (cell k v)
copied_none s cell k v = by_type (is_plain_type (type_at s k))
  where
    by_type : (plain : Bool) → is_none (if plain then text_of (cell k v) else cell k v) ≡ is_none (cell k v)
    by_type true = none_text (cell k v)
    by_type false = refl

-- an integer that may be missing
abbrev pub IsIntegerOrMissing : Cell → Type 0
IsIntegerOrMissing missing = Unit {0}
IsIntegerOrMissing (text t) = ⊥
IsIntegerOrMissing (number n) = Unit {0}

integers_compared : (a b : Cell) → IsIntegerOrMissing a → IsIntegerOrMissing b → (same : Bool) × (equal a b ≡ Some same)
integers_compared missing b first second = (false, refl)
integers_compared (text t) b first second = absurd first
integers_compared (number m) missing first second = (false, refl)
integers_compared (number m) (text t) first second = absurd second
integers_compared (number m) (number n) first second = (int_eq m n, refl)

-- ---- integers
integer_type : (column : ColumnType) → is_integer column ≡ true → column ≡ Integer
integer_type Text e = absurd (true≢false (sym e))
integer_type Integer e = refl
integer_type Date e = absurd (true≢false (sym e))
integer_type Timestamp e = absurd (true≢false (sym e))
integer_type (Decimal scale) e = absurd (true≢false (sym e))
integer_type Uuid e = absurd (true≢false (sym e))
integer_type (Other name) e = absurd (true≢false (sym e))

-- what the text of a value is cast to, and its text again
pub record IsCast (cast : Cast) (x : Cell) : Type 0 where
  pub to : Cell
  pub is : integer_of cast x ≡ Some to
  pub back : text_of to ≡ x
  pub kind : IsIntegerOrMissing to

text_cast : (cast : Cast) (x : Cell) → CastsIntegers cast → IsIntegerCell (text_of x) → IsCast cast (text_of x)
text_cast cast missing casts is = record { to = missing; is = refl; back = refl; kind = tt }
text_cast cast (text t) casts is =
    let found = casts.exact t is in
    record { to = number found.0; is = ap (option_map number) found.1; back = ap text found.2; kind = tt }
text_cast cast (number n) casts is =
    let found = casts.exact (integer_text n) is in
    record { to = number found.0; is = ap (option_map number) found.1; back = ap text found.2; kind = tt }

-- ---- values of a relation
or_missing : Option Cell → Cell
or_missing None = missing
or_missing (Some c) = c

-- a value as a table of the design has it; a missing one where the cast is an error
pub entered : Schema → Cast → Cells → ℕ → List ℕ → Cell
entered s cast cell k v = or_missing (entered_cell s cast cell k v)

module _ (cast : Cast) (s : Schema) (cell : Cells) (r : Relation) (casts : CastsIntegers cast)
    (integers : (k : ℕ) → k < width_of s → type_at s k ≡ Integer → AreIntegers (compared_cell cell) r k) where
  -- a value of an integer column
  integer_copied : (k : ℕ) (t : Tuple) → is_integer (type_at s k) ≡ true → copied_cell s cell k (value_at t k) ≡ compared_cell cell k (value_at t k)
  integer_copied k t of_integer =
      ap (λ (column : ColumnType). if is_plain_type column then compared_cell cell k (value_at t k) else cell k (value_at t k))
      (integer_type (type_at s k) of_integer)

  pub cast_at : (k : ℕ) (t : Tuple) → k < width_of s → Contains r t → is_integer (type_at s k) ≡ true → IsCast cast (copied_cell s cell k (value_at t k))
  cast_at k t low h of_integer =
      subst (IsCast cast) (sym (integer_copied k t of_integer))
      (text_cast cast (cell k (value_at t k)) casts (integers k low (integer_type (type_at s k) of_integer) t h))

  -- in an integer column the integer, else the value as it is copied
  pub entered-integer : (k : ℕ) (t : Tuple) (low : k < width_of s) (h : Contains r t) (e : is_integer (type_at s k) ≡ true)
      → entered_cell s cast cell k (value_at t k) ≡ Some (cast_at k t low h e).to
  entered-integer k t low h e = rw e (cast_at k t low h e).is

  entered-plain : (k : ℕ) (t : Tuple) → is_integer (type_at s k) ≡ false
      → entered_cell s cast cell k (value_at t k) ≡ Some (copied_cell s cell k (value_at t k))
  entered-plain k t e = rw e refl

  pub entered-known : (k : ℕ) (t : Tuple) → k < width_of s → Contains r t
      → entered_cell s cast cell k (value_at t k) ≡ Some (entered s cast cell k (value_at t k))
  unfolding entered or_missing
  entered-known k t low h = elim (cases_Bool (is_integer (type_at s k))) [
    | inl whole ↦ let is = entered-integer k t low h whole in is ∙ ap (λ (c : Cell). Some c) (sym (ap or_missing is))
    | inr other ↦ let is = entered-plain k t other in is ∙ ap (λ (c : Cell). Some c) (sym (ap or_missing is))
  ]

  integer_is : (k : ℕ) (t : Tuple) (low : k < width_of s) (h : Contains r t) (e : is_integer (type_at s k) ≡ true)
      → entered s cast cell k (value_at t k) ≡ (cast_at k t low h e).to
  unfolding entered or_missing
  integer_is k t low h e = ap or_missing (entered-integer k t low h e)

  plain_is : (k : ℕ) (t : Tuple) → is_integer (type_at s k) ≡ false → entered s cast cell k (value_at t k) ≡ copied_cell s cell k (value_at t k)
  unfolding entered or_missing
  plain_is k t e = ap or_missing (entered-plain k t e)

  -- its text is that of the value
  pub returned-known : (k : ℕ) (t : Tuple) → k < width_of s → Contains r t
      → text_of (entered s cast cell k (value_at t k)) ≡ compared_cell cell k (value_at t k)
  returned-known k t low h = elim (cases_Bool (is_integer (type_at s k))) [
    | inl whole ↦ ap text_of (integer_is k t low h whole) ∙ (cast_at k t low h whole).back ∙ integer_copied k t whole
    | inr other ↦ ap text_of (plain_is k t other) ∙ by_type (is_plain_type (type_at s k))
  ]
    where
      by_type : (plain : Bool) → text_of (if plain then compared_cell cell k (value_at t k) else cell k (value_at t k)) ≡ compared_cell cell k (value_at t k)
      by_type true = twice_text (cell k (value_at t k))
      by_type false = refl

  -- values that differ are told apart
  pub entered-apart : AreApart s cell r → (k : ℕ) (t u : Tuple) → k < width_of s → Contains r t → Contains r u
      → entered s cast cell k (value_at t k) ≡ entered s cast cell k (value_at u k) → value_at t k ≡ value_at u k
  entered-apart apart k t u low ht hu same =
      apart k low t u ht hu
      (sym (returned-known k t low ht) ∙ ap text_of same ∙ returned-known k u low hu)

  -- a value is missing in a table of the design where it is in the user's table
  pub entered-none : (k : ℕ) (t : Tuple) → k < width_of s → Contains r t
      → is_none (entered s cast cell k (value_at t k)) ≡ is_none (cell k (value_at t k))
  entered-none k t low h = elim (cases_Bool (is_integer (type_at s k))) [
    | inl whole ↦
        ap is_none (integer_is k t low h whole) ∙ sym (none_text (cast_at k t low h whole).to)
        ∙ ap is_none (cast_at k t low h whole).back ∙ copied_none s cell k (value_at t k)
    | inr other ↦ ap is_none (plain_is k t other) ∙ copied_none s cell k (value_at t k)
  ]

  -- no value is missing that may not be
  pub entered-there : NoneMissing s cell r → (k : ℕ) (t : Tuple) → k < width_of s → nullable_of s k ≡ false → Contains r t
      → is_none (entered s cast cell k (value_at t k)) ≡ false
  entered-there none k t low required h = entered-none k t low h ∙ none k (grind (arith, nat_tests, low, required)) t h

  -- and two can be compared
  pub entered-compared : AreComparable s cell r → (k : ℕ) (t u : Tuple) → k < width_of s → Contains r t → Contains r u
      → (b : Bool) × (equal (entered s cast cell k (value_at t k)) (entered s cast cell k (value_at u k)) ≡ Some b)
  entered-compared comparable k t u low ht hu = elim (cases_Bool (is_integer (type_at s k))) [
    | inl whole ↦
        let same = integers_compared (cast_at k t low ht whole).to (cast_at k u low hu whole).to (cast_at k t low ht whole).kind (cast_at k u low hu whole).kind in (
          same.0,
          ap (λ (c : Cell). equal c (entered s cast cell k (value_at u k))) (integer_is k t low ht whole)
              ∙ ap (equal (cast_at k t low ht whole).to) (integer_is k u low hu whole) ∙ same.1,
        )
    | inr other ↦
        let same = comparable k low t u ht hu in (
          same.0,
          ap (λ (c : Cell). equal c (entered s cast cell k (value_at u k))) (plain_is k t other)
              ∙ ap (equal (copied_cell s cell k (value_at t k))) (plain_is k u other) ∙ same.1,
        )
  ]
