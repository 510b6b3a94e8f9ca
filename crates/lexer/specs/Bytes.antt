-- The bytes of a text: gaps, runs and numbers. For the tokens (`Pieces`), and for the words of a
-- command (`desk_words`).
use Rattle.std.specs.Prelude.{ℕ, ◌+◌, ◌*◌, ◌-◌, ◌==◌, Bool, ◌&&◌, ◌||◌, List, length, nat_lt, fold}
use Rattle.std.specs.Char.{is_ascii_digit}
use Rattle.std.specs.List.{list_all, prefix_len}
use Rattle.schema_model.specs.Names.{is_name_byte}

-- a blank, a tab or a comma
abbrev pub is_gap : ℕ → Bool
is_gap b = (b == 32 || b == 9) || b == 44

-- how many letters, digits and `_` stand at the front
abbrev pub run_length : List ℕ → ℕ
run_length text = prefix_len is_name_byte text

-- 1 to 9 digits
unfoldable pub is_number : List ℕ → Bool
is_number run = (nat_lt 0 (length run) && nat_lt (length run) 10) && list_all is_ascii_digit run

-- the value of decimal digits
abbrev pub number_of : List ℕ → ℕ
number_of run = fold (λ value digit. value * 10 + (digit - 48)) 0 run
