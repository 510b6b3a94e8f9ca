-- A shell reads the text that stands for a word as this word.
use Rattle.std.proofs.Common.{◌≡◌, ℕ, arith, ◌<◌, Bool, true, false, List, [], ◌∷◌, ◌++◌, length, None, Some, refl, sym, ap, ◌∙◌, append_assoc}
use Rattle.std.specs.Prelude.{◌==◌, nat_lt, if◌then◌else◌, codes}
use Rattle.std.specs.List.{flat_map, list_all}
use Rattle.std.proofs.lemmas.Bool.{and_parts, eqb-true, true≢false}
use Rattle.html_pages.specs.Commands.{is_plain_byte, is_plain_word, quoted_byte, shell_reads, shell_word, single_quoted, unquoted, with_front, within_quotes, after_backslash}

-- bytes that mean themselves
plain_read : (word : List ℕ) → list_all is_plain_byte word ≡ true → shell_reads unquoted word ≡ Some word
plain_read [] all = refl
plain_read (b ∷ word) all =
    let parts = and_parts (is_plain_byte b) (list_all is_plain_byte word) all in
    ap (λ (plain : Bool). if plain then with_front b (shell_reads unquoted word)
    else if b == 39 then shell_reads within_quotes word
    else if b == 92 then shell_reads after_backslash word
    else None) parts.0
    ∙ ap (with_front b) (plain_read word parts.1)

-- a byte between single quotes, before others that are read
byte_read : (b : ℕ) (word rest : List ℕ) (quote : Bool) → (b == 39) ≡ quote
    → shell_reads within_quotes rest ≡ Some word
    → shell_reads within_quotes (quoted_byte b ++ rest) ≡ Some (b ∷ word)
byte_read b word rest true is read =
    ap (λ (q : Bool). shell_reads within_quotes ((if q then codes "'\\''" else b ∷ []) ++ rest)) is
    ∙ ap (with_front 39) read
    ∙ ap (λ (byte : ℕ). Some (byte ∷ word)) (sym (eqb-true b 39 is))
byte_read b word rest false is read =
    ap (λ (q : Bool). shell_reads within_quotes ((if q then codes "'\\''" else b ∷ []) ++ rest)) is
    ∙ ap (λ (q : Bool). if q then shell_reads unquoted rest else with_front b (shell_reads within_quotes rest)) is
    ∙ ap (with_front b) read

-- bytes between single quotes, up to the last one
quotes_read : (word : List ℕ) → shell_reads within_quotes (flat_map quoted_byte word ++ codes "'") ≡ Some word
quotes_read [] = refl
quotes_read (b ∷ word) =
    ap (shell_reads within_quotes) (append_assoc (quoted_byte b) (flat_map quoted_byte word) (codes "'"))
    ∙ byte_read b word (flat_map quoted_byte word ++ codes "'") (b == 39) refl (quotes_read word)

as_read : (word : List ℕ) (plain : Bool) → is_plain_word word ≡ plain
    → shell_reads unquoted (if plain then word else single_quoted word) ≡ Some word
unfolding single_quoted
as_read word true is = plain_read word (and_parts (nat_lt 0 (length word)) (list_all is_plain_byte word) is).1
as_read word false is = quotes_read word

pub word_read : (word : List ℕ) → shell_reads unquoted (shell_word word) ≡ Some word
unfolding shell_word
word_read word = as_read word (is_plain_word word) refl

positive : (x : ℕ) (xs : List ℕ) → 0 < length (x ∷ xs)
positive x xs = omega arith

some_plain : (word : List ℕ) → is_plain_word word ≡ true → 0 < length word
some_plain [] is = absurd (true≢false (sym is))
some_plain (b ∷ word) is = positive b word

as_some : (word : List ℕ) (plain : Bool) → is_plain_word word ≡ plain → 0 < length (if plain then word else single_quoted word)
unfolding single_quoted
as_some word true is = some_plain word is
as_some word false is = positive 39 (flat_map quoted_byte word ++ codes "'")

pub some_text : (word : List ℕ) → 0 < length (shell_word word)
unfolding shell_word
some_text word = as_some word (is_plain_word word) refl
