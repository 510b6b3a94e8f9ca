-- Where a name stands among names, and that each bare name is a name, and the text of each type.
use Rattle.std.proofs.Common.{◌≡◌, ◌+◌, ◌<◌, ◌≤◌, ◌&&◌, ◌==◌, ℕ, zero, suc, Bool, true, false, List, [], ◌∷◌, ◌++◌, length, get_or, Some, refl, arith, length-append, lt-ltb}
use Rattle.std.specs.Prelude.{nat_lt, nat_le, slice_index, All}
use Rattle.std.specs.Char.{is_ascii_alphabetic}
use Rattle.std.specs.List.{position_or_len, list_all, list_any}
use Rattle.std.specs.Str.{str_to_ascii_lowercase}
use Rattle.std.proofs.lemmas.List.{get_or_append_left, get_or_at}
use Rattle.std.proofs.lemmas.List.Sums.{position_or_len_is}
use Rattle.std.proofs.lemmas.Slice.Eq.{bytes_eq-Decides}
use Rattle.std.proofs.lemmas.Bool.{and_parts}
use Rattle.std.proofs.lemmas.Bool.Decides.{nat_tests}
use Rattle.std.proofs.lemmas.Str.{IsUtf8-from_ascii}
use Rattle.schema_model.specs.declared.name.TheConstants.{MOST_BARE_NAME_BYTES, MOST_NAME_BYTES}
use Rattle.schema_model.specs.declared.type_name.TheConstants.{MOST_TYPE_BYTES}
use Rattle.schema_model.specs.Names.{IsName, is_control, begins_with_mark, is_name_byte, is_word, is_bare_name, is_type_byte, is_type_text, same_name}
use Rattle.schema_model.specs.Schemas.{attribute_named}

-- a name is found at its position
pub attribute_named-append : (before : List (List ℕ)) (name : List ℕ) (after : List (List ℕ)) → All (λ b. same_name b name ≡ false) before
    → attribute_named (before ++ name ∷ after) name ≡ Some (length before)
attribute_named-append before name after none =
    let size : length (before ++ name ∷ after) ≡ length before + suc (length after) = length-append before (name ∷ after) in
    let at : position_or_len (λ b. same_name b name) (before ++ name ∷ after) ≡ length before =
    position_or_len_is (λ b. same_name b name) (before ++ name ∷ after) (length before) [] (omega arith)
    (λ k less. rw (get_or_append_left before (name ∷ after) [] k less) (none k [] less))
    (λ less. rw (get_or_at before name after [] (length before) refl)
    ((bytes_eq-Decides (str_to_ascii_lowercase name) (str_to_ascii_lowercase name)).1 refl)) in
    let inside : nat_lt (length before) (length (before ++ name ∷ after)) ≡ true = lt-ltb _ _ (omega arith) in
    rw (at, inside) refl

-- ---- bare names
-- bytes that pass a test which no control character and no byte beyond ASCII passes
module _ (test : ℕ → Bool) (each : (b : ℕ) → test b ≡ true → (b < 128) × (is_control b ≡ false)) where
  bytes_ascii : (bytes : List ℕ) → list_all test bytes ≡ true → (i : ℕ) → get_or bytes i 0 < 128
  bytes_ascii [] all i = omega arith
  bytes_ascii (b ∷ bytes) all zero = (each b (and_parts (test b) (list_all test bytes) all).0).0
  bytes_ascii (b ∷ bytes) all (suc i) = bytes_ascii bytes (and_parts (test b) (list_all test bytes) all).1 i

  bytes_no_control : (bytes : List ℕ) → list_all test bytes ≡ true → list_any is_control bytes ≡ false
  bytes_no_control [] all = refl
  bytes_no_control (b ∷ bytes) all =
      let parts = and_parts (test b) (list_all test bytes) all in
      rw ((each b parts.0).1) (bytes_no_control bytes parts.1)

  bytes_no_mark : (bytes : List ℕ) → list_all test bytes ≡ true → begins_with_mark bytes ≡ false
  bytes_no_mark [] all = refl
  bytes_no_mark (b ∷ bytes) all =
      let low = (each b (and_parts (test b) (list_all test bytes) all).0).0 in
      let other : (239 == b) ≡ false = grind (arith, nat_tests, low) in rw other refl

  -- are a name, where there are some and not too many
  named : (bytes : List ℕ) → list_all test bytes ≡ true → 0 < length bytes → length bytes ≤ MOST_NAME_BYTES → IsName bytes
  named bytes all some few = record {
    some_bytes = some;
    within_limit = few;
    utf8 = IsUtf8-from_ascii bytes (bytes_ascii bytes all);
    no_control = bytes_no_control bytes all;
    no_mark = bytes_no_mark bytes all;
  }

name_byte : (b : ℕ) → is_name_byte b ≡ true → (b < 128) × (is_control b ≡ false)
name_byte b named = (grind (arith, nat_tests), grind (arith, nat_tests))

-- each bare name is a name
pub bare_name_is_name : (bytes : List ℕ) → is_bare_name bytes ≡ true → IsName bytes
bare_name_is_name bytes bare =
    let sized = and_parts (is_word bytes) (nat_le (length bytes) MOST_BARE_NAME_BYTES) bare in
    let word = and_parts (nat_lt 0 (length bytes) && is_ascii_alphabetic (slice_index bytes 0)) (list_all is_name_byte bytes) sized.0 in
    let begun = and_parts (nat_lt 0 (length bytes)) (is_ascii_alphabetic (slice_index bytes 0)) word.0 in
    named is_name_byte name_byte bytes word.1 (grind (arith, nat_tests, begun.0)) (grind (arith, nat_tests, sized.1))

-- ---- the text of a type
type_byte : (b : ℕ) → is_type_byte b ≡ true → (b < 128) × (is_control b ≡ false)
type_byte b is = (grind (arith, nat_tests), grind (arith, nat_tests))

-- is a name, which may stand between quotes
pub type_text_is_name : (bytes : List ℕ) → is_type_text bytes ≡ true → IsName bytes
type_text_is_name bytes is =
    let all = and_parts (nat_lt 0 (length bytes) && nat_le (length bytes) MOST_TYPE_BYTES) (list_all is_type_byte bytes) is in
    let sized = and_parts (nat_lt 0 (length bytes)) (nat_le (length bytes) MOST_TYPE_BYTES) all.0 in
    named is_type_byte type_byte bytes all.1 (grind (arith, nat_tests, sized.0)) (grind (arith, nat_tests, sized.1))
