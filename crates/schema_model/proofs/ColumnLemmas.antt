-- The types of the columns of a schema without types of its own: all text.
use Rattle.std.proofs.Common.{true, ◌≡◌, ℕ, ◌<◌, zero, suc, List, IsTrue, Some, All, Contains, length, replicate, get_or, refl, sym, ◌∙◌, arith}
use Rattle.std.specs.List.{slice_get}
use Rattle.std.proofs.lemmas.Bool.{true≢false, false≢true}
use Rattle.std.proofs.lemmas.List.{length-replicate, get_or-replicate}
use Rattle.std.proofs.lemmas.List.Elements.{All-replicate}
use Rattle.attr_sets.specs.Attributes.{Attributes, IsEmpty}
use Rattle.schema_model.specs.declared.column_type.ColumnType.{ColumnType}
use Rattle.schema_model.specs.declared.column_type.ColumnType.TheVariants.{Text, Integer}
use Rattle.schema_model.specs.declared.naming.Naming.TheVariants.{Bare}
use Rattle.schema_model.specs.Names.{is_bare_name}
use Rattle.schema_model.specs.Columns.{is_column_type, is_plain_type}
use Rattle.schema_model.specs.Validity.{AreColumns, AreDeclared}

pub slice_get-texts : (n i : ℕ) → i < n → slice_get (replicate n Text) i ≡ Some Text
slice_get-texts zero i low = absurd (omega arith)
slice_get-texts (suc n) zero low = refl
slice_get-texts (suc n) (suc i) low = slice_get-texts n i (omega arith)

-- no text column is an integer one
text_not_integer : Text ≡ Integer → ⊥
text_not_integer same = cc

no_integer : (n : ℕ) → Contains (replicate n Text) Integer → ⊥
no_integer n h =
    let low : h.0 < n = omega (arith, h.1, length-replicate n Text) in
    text_not_integer (sym (get_or-replicate n h.0 Text Integer low) ∙ h.2)

-- text columns fit any bare names
pub AreDeclared-text : (names : List (List ℕ)) (nullable : Attributes) → All (λ name. IsTrue (is_bare_name name)) names → IsEmpty nullable
    → AreDeclared Bare names (replicate (length names) Text) nullable
AreDeclared-text names nullable bare none = record {
  one_each = length-replicate (length names) Text;
  each = All-replicate (λ column. IsTrue (is_column_type column)) (length names) Text refl;
  nullable_within = λ k inside. absurd (true≢false (sym inside ∙ none k));
  bare = λ is_bare. record {
    each_bare = bare;
    are_columns = record {
      one_each = length-replicate (length names) Text;
      plain = All-replicate (λ column. IsTrue (is_plain_type column)) (length names) Text refl;
      no_type_name = λ h. absurd (no_integer (length names) h);
    };
    none_nullable = none;
  };
}

-- ---- types beside bare names
plain_is_type : (column : ColumnType) → is_plain_type column ≡ true → is_column_type column ≡ true
plain_is_type Text plain = refl
plain_is_type Integer plain = refl
plain_is_type column plain = absurd (false≢true plain)

-- types that fit bare names, none of them nullable, are columns
pub AreDeclared-bare : (names : List (List ℕ)) (columns : List ColumnType) (nullable : Attributes)
    → All (λ name. IsTrue (is_bare_name name)) names → AreColumns names columns → IsEmpty nullable
    → AreDeclared Bare names columns nullable
AreDeclared-bare names columns nullable bare are none = record {
  one_each = are.one_each;
  each = λ k d low. plain_is_type (get_or columns k d) (are.plain k d low);
  nullable_within = λ k inside. absurd (true≢false (sym inside ∙ none k));
  bare = λ is_bare. record { each_bare = bare; are_columns = are; none_nullable = none };
}
