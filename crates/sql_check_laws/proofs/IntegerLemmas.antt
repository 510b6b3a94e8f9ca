-- The query of an integer attribute decides whether its column has integers alone.
use Rattle.std.proofs.Common.{◌≡◌, ◌<◌, ℕ, Bool, false, not, List, [], ◌∷◌, Some, None, Option, refl, sym, ap, subst, ◌∙◌, inl, inr}
use Rattle.std.proofs.lemmas.Bool.{cases_Bool, true≢false}
use Rattle.std.specs.Prelude.{◌↔◌, ℤ, Contains, option_map, option_and_then, codes}
use Rattle.std.specs.Str.{bytes_eq}
use Rattle.schema_model.specs.Schemas.{Schema}
use Rattle.schema_model.specs.Integers.{IsIntegerText}
use Rattle.schema_model.specs.Schemas.{width_of}
use Rattle.dep_model.specs.Tuples.{Tuple, Relation, value_at}
use Rattle.sql_syntax.specs.Syntax.{Column, Condition, column, as_text, as_integer, differs, own}
use Rattle.sql_check.specs.Columns.{column_at}
use Rattle.sql_check.specs.Checks.{integer_query}
use Rattle.sql_evaluation.specs.Cells.{Cell, missing, text, number, integer_text, text_of, integer_of, differ}
use Rattle.sql_evaluation.specs.Values.{of_both, holds}
use Rattle.sql_evaluation.specs.Evaluation.{Engine}
use Rattle.sql_check_laws.specs.HeldRelations.{RowHolds, Holds, CastsIntegers}
use Rattle.sql_check_laws.specs.CheckedRules.{GivesNoRow, IsIntegerCell, AreIntegers, ShowsIntegers}
use Rattle.sql_check_laws.proofs.ColumnLemmas.{bytes_same, bytes_self}
use Rattle.sql_check_laws.proofs.GroupLemmas.{Cells}
use Rattle.sql_check_laws.proofs.RowLemmas.{row-tuple, tuple-row, row_look, none_is_not_some, some_is, none-of_table}

-- ---- one value
-- the test of a value
abbrev differs_from_integer : (List ℕ → Option ℤ) → Cell → Option Bool
differs_from_integer cast c = of_both differ (option_map text_of (integer_of cast c)) (Some (text_of c))

text_told : (t : List ℕ) (found : Option ℤ) → of_both differ (option_map text_of (option_map number found)) (Some (text t)) ≡ Some false
    → (n : ℤ) × (found ≡ Some n) × (integer_text n ≡ t)
text_told t None e = absurd (none_is_not_some false e)
text_told t (Some n) e = (
  n,
  refl,
  (bytes_same (integer_text n) t).0 (elim (cases_Bool (bytes_eq (integer_text n) t)) [
    | inl same ↦ same
    | inr other ↦ absurd (true≢false (ap not (sym other) ∙ some_is (not (bytes_eq (integer_text n) t)) false e))
  ]),
)

told_text : (t : List ℕ) (found : Option ℤ) (n : ℤ) → found ≡ Some n → integer_text n ≡ t
    → of_both differ (option_map text_of (option_map number found)) (Some (text t)) ≡ Some false
told_text t found n is same =
    ap (λ (o : Option ℤ). of_both differ (option_map text_of (option_map number o)) (Some (text t))) is
    ∙ ap (λ (b : Bool). Some (not b)) ((bytes_same (integer_text n) t).1 same)

integer_told : (cast : List ℕ → Option ℤ) (c : Cell) → CastsIntegers cast → (differs_from_integer cast c ≡ Some false) ↔ IsIntegerCell c
integer_told cast missing casts = (λ e. tt, λ all. refl)
integer_told cast (number n) casts = (λ e. tt, λ all. ap (λ (b : Bool). Some (not b)) (bytes_self (integer_text n)))
integer_told cast (text t) casts = (
  λ e. let found = text_told t (cast t) e in subst IsIntegerText found.2 (casts.within t found.0 found.1),
  λ is. let found = casts.exact t is in told_text t (cast t) found.0 found.1 found.2,
)

-- ---- one row
integer_test : Column → Condition
integer_test c = differs (as_text (as_integer (column c))) (as_text (column c))

integer-tested : (s : Schema) (cast : List ℕ → Option ℤ) (cell : Cells) (names : List (List ℕ)) (row : List Cell) (t : Tuple) (k : ℕ) → RowHolds s cell names row t → k < width_of s
    → holds cast (row_look names row) (integer_test (column_at s (codes "r") k)) ≡ differs_from_integer cast (cell k (value_at t k))
unfolding integer_test
integer-tested s cast cell names row t k held low =
    ap (λ (found : Option Cell). of_both differ (option_map text_of (option_and_then (integer_of cast) found)) (option_map text_of found)) (held k low)

-- ---- all rows
pub integers_told : (e : Engine) (table : List ℕ) (s : Schema) (cell : Cells) (r : Relation) (k : ℕ) → Holds e table s cell r → CastsIntegers e.cast → k < width_of s
    → AreIntegers cell r k ↔ ShowsIntegers e s table k
unfolding integer_query integer_test
integers_told e table s cell r k held casts low = (
  λ all. law.1 (λ row h.
      let of = row-tuple s cell held.given.names held.given.rows r row held.held h in
      integer-tested s e.cast cell held.given.names row of.0 k of.2 low ∙ (integer_told e.cast (cell k (value_at of.0 k)) casts).1 (all of.0 of.1)),
  λ none t ht.
      let at = tuple-row s cell held.given.names held.given.rows r t held.held ht in
      (integer_told e.cast (cell k (value_at t k)) casts).0
      (sym (integer-tested s e.cast cell held.given.names at.0 t k at.2 low) ∙ law.0 none at.0 at.1),
)
  where
    law : GivesNoRow e (integer_query table (column_at s (codes "r") k))
        ↔ ((row : List Cell) → Contains held.given.rows row → holds e.cast (row_look held.given.names row) (integer_test (column_at s (codes "r") k)) ≡ Some false)
    law = none-of_table e table (own (column_at s (codes "r") k) ∷ []) (integer_test (column_at s (codes "r") k)) held.given held.known
