-- Bytes without a line feed: those of names, and what is quoted of such bytes.
use Rattle.std.proofs.Common.{◌≡◌, ◌||◌, ◌==◌, ℕ, Bool, false, List, [], ◌∷◌, ◌++◌, refl, ap, ◌∙◌, inl, inr, arith}
use Rattle.std.specs.Prelude.{if◌then◌else◌}
use Rattle.std.specs.List.{list_any}
use Rattle.std.proofs.lemmas.Bool.{cases_Bool, or_parts}
use Rattle.std.proofs.lemmas.Bool.Decides.{nat_tests}
use Rattle.schema_model.specs.Names.{IsName, is_control, quoted, quotes_doubled}

-- bytes without a line feed
abbrev pub IsPlain : List ℕ → Type 0
IsPlain bytes = list_any (λ b. b == 10) bytes ≡ false

pub plain_both : (one other : List ℕ) → IsPlain one → IsPlain other → IsPlain (one ++ other)
plain_both [] other first second = second
plain_both (b ∷ one) other first second =
    let parts = or_parts (b == 10) (list_any (λ b. b == 10) one) first in
    ap (λ (t : Bool). t || list_any (λ b. b == 10) (one ++ other)) parts.0 ∙ plain_both one other parts.1 second

plain_byte : (b : ℕ) → is_control b ≡ false → (b == 10) ≡ false
plain_byte b control = grind (arith, nat_tests, control)

controls_plain : (bytes : List ℕ) → list_any is_control bytes ≡ false → IsPlain bytes
controls_plain [] none = refl
controls_plain (b ∷ bytes) none =
    let parts = or_parts (is_control b) (list_any is_control bytes) none in
    ap (λ (t : Bool). t || list_any (λ b. b == 10) bytes) (plain_byte b parts.0) ∙ controls_plain bytes parts.1

pub name_plain : (name : List ℕ) → IsName name → IsPlain name
name_plain name is = controls_plain name is.no_control

doubled_plain : (bytes : List ℕ) → IsPlain bytes → IsPlain (quotes_doubled bytes)
unfolding quotes_doubled
doubled_plain [] none = refl
doubled_plain (b ∷ bytes) none =
    let parts = or_parts (b == 10) (list_any (λ b. b == 10) bytes) none in
    let this : IsPlain (if b == 34 then 34 ∷ 34 ∷ [] else b ∷ []) = elim (cases_Bool (b == 34)) [
      | inl quote ↦ rw quote refl
      | inr other ↦ rw other (ap (λ (t : Bool). t || false) parts.0)
    ] in
    plain_both (if b == 34 then 34 ∷ 34 ∷ [] else b ∷ []) (quotes_doubled bytes) this (doubled_plain bytes parts.1)

pub quoted_plain : (bytes : List ℕ) → IsPlain bytes → IsPlain (quoted bytes)
quoted_plain bytes none =
    plain_both (34 ∷ []) (quotes_doubled bytes ++ 34 ∷ []) refl
    (plain_both (quotes_doubled bytes) (34 ∷ []) (doubled_plain bytes none) refl)
