-- The bytes of words and numbers: for the pieces of a text.
use Rattle.std.specs.Prelude.{ℕ, ◌==◌, Bool, ◌||◌, nat_lt}
use Rattle.std.specs.Char.{is_ascii_alphabetic, is_ascii_alphanumeric, is_ascii_digit}

-- a letter, `_` or a byte above 127
abbrev pub begins_word : ℕ → Bool
begins_word b = is_ascii_alphabetic b || (b == 95) || nat_lt 127 b

-- such a byte, or a digit
abbrev pub is_tag_byte : ℕ → Bool
is_tag_byte b = begins_word b || is_ascii_digit b

-- such a byte, a digit or `$`
abbrev pub is_word_byte : ℕ → Bool
is_word_byte b = is_tag_byte b || (b == 36)

-- a letter, a digit, `_` or `.`
abbrev pub is_number_byte : ℕ → Bool
is_number_byte b = is_ascii_alphanumeric b || (b == 95) || (b == 46)

abbrev pub is_line_feed : ℕ → Bool
is_line_feed b = b == 10

-- a blank, a tab, a line feed, a carriage return or a form feed
abbrev pub is_blank : ℕ → Bool
is_blank b = (b == 32) || (b == 9) || (b == 13) || (b == 12) || (b == 10)

-- below a blank, or 127
abbrev pub is_strange : ℕ → Bool
is_strange b = nat_lt b 32 || (b == 127)
