-- How many persons a word asks for, how many attributes on the left, and how many rows may go: for `sample` and
-- `discover` (`Forms`).
use Rattle.std.specs.Prelude.{ℕ, Bool, ◌&&◌, List, length, nat_lt, nat_le}
use Rattle.std.specs.Char.{is_ascii_digit}
use Rattle.std.specs.List.{list_all}
use Rattle.lexer.specs.Bytes.{number_of}
use Rattle.sample_rows.specs.declared.rows.TheConstants.{MOST_PERSONS}
use Rattle.desk_words.specs.declared.bounds.TheConstants.{MOST_ON_LEFT}

-- one to so many digits
unfoldable pub is_short_number : ℕ → List ℕ → Bool
is_short_number most word = (nat_lt 0 (length word) && nat_le (length word) most) && list_all is_ascii_digit word

-- one to five digits, of a value from 1 to the most persons
unfoldable pub is_count : List ℕ → Bool
is_count word = is_short_number 5 word && (nat_lt 0 (number_of word) && nat_le (number_of word) MOST_PERSONS)

-- one or two digits, of a value from 1 to the most attributes on the left
unfoldable pub is_left_bound : List ℕ → Bool
is_left_bound word = is_short_number 2 word && (nat_lt 0 (number_of word) && nat_le (number_of word) MOST_ON_LEFT)

-- one to seven digits
unfoldable pub is_row_bound : List ℕ → Bool
is_row_bound word = is_short_number 7 word
