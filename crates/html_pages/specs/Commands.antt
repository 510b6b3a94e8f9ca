-- The words of a command as a shell takes them: for what stands beside the title of a piece.
use Rattle.std.specs.Prelude.{ℕ, Bool, ◌&&◌, ◌||◌, ◌==◌, nat_lt, if◌then◌else◌, List, [], ◌∷◌, ◌++◌, length, codes, Option, None, Some, option_map}
use Rattle.std.specs.Char.{is_ascii_alphanumeric}
use Rattle.std.specs.List.{flat_map, list_all, list_any}

-- a byte that means itself in a shell: a letter, a digit or one of `_ - . / : , + @ %`
abbrev pub is_plain_byte : ℕ → Bool
is_plain_byte b = is_ascii_alphanumeric b || list_any (λ other. b == other) (codes "_-./:,+@%")

-- bytes that all mean themselves, and at least one
abbrev pub is_plain_word : List ℕ → Bool
is_plain_word word = nat_lt 0 (length word) && list_all is_plain_byte word

-- a byte between single quotes; a single quote ends them, stands behind a backslash, and begins them again
abbrev pub quoted_byte : ℕ → List ℕ
quoted_byte b = if b == 39 then codes "'\\''" else b ∷ []

-- bytes between single quotes
unfoldable pub single_quoted : List ℕ → List ℕ
single_quoted word = codes "'" ++ flat_map quoted_byte word ++ codes "'"

-- a word as a shell takes it: as it is, where each byte means itself, else between single quotes
unfoldable pub shell_word : List ℕ → List ℕ
shell_word word = if is_plain_word word then word else single_quoted word

-- ---- what a shell makes of a text
-- where a shell is in a word
pub data Quoting : Type 0 where
  unquoted : Quoting
  within_quotes : Quoting
  after_backslash : Quoting

-- a byte before a word, where there is one
abbrev pub with_front : ℕ → Option (List ℕ) → Option (List ℕ)
with_front b word = option_map (λ bytes. b ∷ bytes) word

-- the bytes that a shell reads as one word: between single quotes each one, and after a backslash; any other must mean
-- itself
abbrev pub shell_reads : Quoting → List ℕ → Option (List ℕ)
shell_reads unquoted [] = Some []
shell_reads within_quotes [] = None
shell_reads after_backslash [] = None
shell_reads unquoted (b ∷ bytes) =
    if is_plain_byte b then with_front b (shell_reads unquoted bytes)
    else if b == 39 then shell_reads within_quotes bytes
    else if b == 92 then shell_reads after_backslash bytes
    else None
shell_reads within_quotes (b ∷ bytes) =
    if b == 39 then shell_reads unquoted bytes else with_front b (shell_reads within_quotes bytes)
shell_reads after_backslash (b ∷ bytes) = with_front b (shell_reads unquoted bytes)
