-- Numbers in decimal stand in names without quotes.
use Rattle.std.proofs.Common.{◌≡◌, ◌+◌, ◌/◌, ◌%◌, ◌==◌, ◌<◌, ℕ, zero, suc, Bool, true, false, cond, List, [], ◌∷◌, ◌++◌, refl, ap, ◌∙◌, arith}
use Rattle.std.specs.Prelude.{codes}
use Rattle.std.specs.Fmt.{decimal, digit_glyph, digits, digits_onto}
use Rattle.std.specs.List.{list_all}
use Rattle.std.proofs.lemmas.Bool.{and_from, lt-ltb}
use Rattle.std.proofs.lemmas.Bool.Decides.{nat_tests}
use Rattle.script_texts.specs.Queries.{is_bare_byte, is_bare}

digit_bare : (d : ℕ) → d < 10 → is_bare_byte (48 + d) ≡ true
digit_bare d low = grind (arith, nat_tests, low)

glyph_bare : (d : ℕ) → d < 10 → is_bare_byte (digit_glyph false d) ≡ true
glyph_bare d low = ap (λ (b : Bool). is_bare_byte (cond b (48 + d) (87 + d))) (lt-ltb d 10 low) ∙ digit_bare d low

either_bare : (b : Bool) (one other : List ℕ) → list_all is_bare_byte one ≡ true → list_all is_bare_byte other ≡ true
    → list_all is_bare_byte (cond b one other) ≡ true
either_bare true one other first second = first
either_bare false one other first second = second

digits_bare : (most n : ℕ) (later : List ℕ) → list_all is_bare_byte later ≡ true
    → list_all is_bare_byte (digits_onto most 10 false n later) ≡ true
digits_bare zero n later bare = bare
digits_bare (suc most) n later bare =
    let glyph : ℕ = digit_glyph false (n % 10) in
    let led : list_all is_bare_byte (glyph ∷ later) ≡ true =
    and_from (is_bare_byte glyph) (list_all is_bare_byte later) (glyph_bare (n % 10) (omega arith)) bare in
    either_bare (n / 10 == 0) (glyph ∷ later) (digits_onto most 10 false (n / 10) (glyph ∷ later)) led
    (digits_bare most (n / 10) (glyph ∷ later) led)

pub decimal_bare : (n : ℕ) → list_all is_bare_byte (decimal n) ≡ true
unfolding digits
decimal_bare n = digits_bare 64 n [] refl

pub numbered_bare : (n : ℕ) → is_bare (codes "c" ++ decimal n) ≡ true
numbered_bare n = decimal_bare n
