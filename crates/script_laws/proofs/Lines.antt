-- Bytes of one line: those without a line feed, numbers, and the texts of types.
use Rattle.std.proofs.Common.{◌≡◌, ◌==◌, ℕ, zero, suc, true, false, not, List, [], ◌∷◌, refl, ap, arith}
use Rattle.std.specs.Prelude.{All, decimal, slice_index_or}
use Rattle.std.specs.List.{list_all, list_any}
use Rattle.std.proofs.lemmas.Bool.{and_from, and_parts, or_from, or_parts}
use Rattle.std.proofs.lemmas.Bool.Decides.{nat_tests}
use Rattle.std.proofs.lemmas.List.Elements.{All-head, All-tail}
use Rattle.schema_model.specs.Names.{is_type_byte}
use Rattle.schema_model.proofs.PlainLemmas.{IsPlain}
use Rattle.script_texts.specs.Queries.{is_bare_byte}
use Rattle.script_texts.specs.Scripts.{is_line}
use Rattle.script_laws.proofs.Numbers.{decimal_bare}

pub line_of_plain : (bytes : List ℕ) → IsPlain bytes → is_line bytes ≡ true
line_of_plain [] plain = refl
line_of_plain (b ∷ bytes) plain =
    let parts = or_parts (b == 10) (list_any (λ c. c == 10) bytes) plain in
    and_from (not (b == 10)) (is_line bytes) (ap not parts.0) (line_of_plain bytes parts.1)

-- ---- numbers
bare_byte : (b : ℕ) → is_bare_byte b ≡ true → (b == 10) ≡ false
bare_byte b bare = grind (arith, nat_tests, bare)

bare_plain : (bytes : List ℕ) → list_all is_bare_byte bytes ≡ true → IsPlain bytes
bare_plain [] are = refl
bare_plain (b ∷ bytes) are =
    let parts = and_parts (is_bare_byte b) (list_all is_bare_byte bytes) are in
    or_from (b == 10) (list_any (λ c. c == 10) bytes) (bare_byte b parts.0) (bare_plain bytes parts.1)

pub decimal_plain : (n : ℕ) → IsPlain (decimal n)
decimal_plain n = bare_plain (decimal n) (decimal_bare n)

-- ---- types
type_byte : (b : ℕ) → is_type_byte b ≡ true → (b == 10) ≡ false
type_byte b is = grind (arith, nat_tests, is)

pub type_plain : (bytes : List ℕ) → list_all is_type_byte bytes ≡ true → IsPlain bytes
type_plain [] are = refl
type_plain (b ∷ bytes) are =
    let parts = and_parts (is_type_byte b) (list_all is_type_byte bytes) are in
    or_from (b == 10) (list_any (λ c. c == 10) bytes) (type_byte b parts.0) (type_plain bytes parts.1)

-- ---- lists
-- what holds of each member, and of what stands in place of one, holds of what stands at a position
pub at_position : {X : Type 0} (P : X → Type 0) (xs : List X) (other : X) → P other → All P xs → (k : ℕ)
    → P (slice_index_or xs k other)
at_position P [] other own all k = own
at_position P (x ∷ xs) other own all zero = All-head P x xs all
at_position P (x ∷ xs) other own all (suc k) = at_position P xs other own (All-tail P x xs all) k
