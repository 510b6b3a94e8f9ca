-- A word that is a declared name, ASCII case aside, names its attribute.
use Rattle.std.proofs.Common.{◌≡◌, ◌<◌, ◌≤◌, ℕ, true, false, List, [], length, get_or, slice_get, Some, refl, sym, ◌∙◌, ap, arith}
use Rattle.std.specs.Prelude.{nat_lt, AllPairs, codes}
use Rattle.std.specs.Char.{to_ascii_lowercase}
use Rattle.std.specs.List.{position_or_len}
use Rattle.std.specs.Str.{bytes_eq, str_to_ascii_lowercase}
use Rattle.std.proofs.lemmas.Bool.{false_from_ne_true, lt-ltb}
use Rattle.std.proofs.lemmas.List.{length-map}
use Rattle.std.proofs.lemmas.List.Sums.{position_or_len_is}
use Rattle.std.proofs.lemmas.Option.{get_or_from_slice_get}
use Rattle.std.proofs.lemmas.Slice.Eq.{bytes_eq-Decides}
use Rattle.schema_model.specs.Names.{same_name}
use Rattle.schema_model.specs.Schemas.{attribute_named}
use Rattle.schema_grammar.specs.declared.format.Format.{Format}
use Rattle.schema_grammar.specs.declared.format.Format.TheVariants as format
use Rattle.schema_grammar.specs.Words.{is_reserved}
use Rattle.schema_printer.specs.Spelling.{is_schema_word}

pub named_here : (names : List (List ℕ)) (name word : List ℕ) (k : ℕ)
    → AllPairs (λ a b. same_name a b ≡ false) names
    → k < length names → slice_get names k ≡ Some name
    → str_to_ascii_lowercase name ≡ str_to_ascii_lowercase word
    → attribute_named names word ≡ Some k
named_here names name word k differ inside here lower =
    let at : get_or names k [] ≡ name = get_or_from_slice_get names k name [] here in
    let passes : same_name (get_or names k []) word ≡ true = ap (λ n. same_name n word) at ∙ (bytes_eq-Decides _ _).1 lower in
    let none : (j : ℕ) → j < k → same_name (get_or names j []) word ≡ false = λ j h.
    ap (bytes_eq (str_to_ascii_lowercase (get_or names j [])))
    (sym lower ∙ ap str_to_ascii_lowercase (sym at)) ∙ differ j k [] h inside in
    let first : position_or_len (λ n. same_name n word) names ≡ k =
    position_or_len_is (λ n. same_name n word) names k [] (omega arith) none (λ h. passes) in
    let within : nat_lt k (length names) ≡ true = lt-ltb _ _ inside in
    rw (first, within) refl

-- ---- reserved words
longer_is_other : (word text : List ℕ) → length word < 4 → 4 ≤ length text → same_name word text ≡ false
longer_is_other word text short long =
    false_from_ne_true (same_name word text)
    (λ e.
    let same = ap length ((bytes_eq-Decides (str_to_ascii_lowercase word) (str_to_ascii_lowercase text)).0 e) in
    absurd (omega (
      arith,
      same,
      length-map word to_ascii_lowercase,
      length-map text to_ascii_lowercase,
      short,
      long,
    )))

-- a word of fewer bytes than any reserved one
pub short_not_reserved : (f : Format) (word : List ℕ) → length word < 4 → is_reserved f word ≡ false
unfolding is_reserved is_schema_word
short_not_reserved format.Plain word short =
    let other = λ (text : List ℕ) (long : 4 ≤ length text). longer_is_other word text short long in
    rw (other (codes "attributes") (omega arith), other (codes "scheme") (omega arith))
    (rw (other (codes "version") (omega arith)) refl)
short_not_reserved format.Typed word short =
    let other = λ (text : List ℕ) (long : 4 ≤ length text). longer_is_other word text short long in
    rw (
      other (codes "attributes") (omega arith),
      other (codes "scheme") (omega arith),
      other (codes "version") (omega arith),
      other (codes "integer") (omega arith),
      other (codes "text") (omega arith),
    ) refl
short_not_reserved format.Full word short =
    let other = λ (text : List ℕ) (long : 4 ≤ length text). longer_is_other word text short long in
    rw (
      other (codes "attributes") (omega arith),
      other (codes "scheme") (omega arith),
      other (codes "version") (omega arith),
      other (codes "integer") (omega arith),
      other (codes "text") (omega arith),
      other (codes "date") (omega arith),
    )
    (rw (
      other (codes "timestamp") (omega arith),
      other (codes "decimal") (omega arith),
      other (codes "uuid") (omega arith),
      other (codes "other") (omega arith),
      other (codes "nullable") (omega arith),
    ) refl)
