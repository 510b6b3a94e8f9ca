-- Few digits are a number.
use Rattle.std.proofs.Common.{◌≡◌, ◌≤◌, ℕ, true, List, arith}
use Rattle.std.proofs.lemmas.Bool.Decides.{nat_tests}
use Rattle.lexer.specs.Bytes.{is_number}
use Rattle.desk_words.specs.Numbers.{is_short_number}

pub short_number : (most : ℕ) (word : List ℕ) → most ≤ 9 → is_short_number most word ≡ true → is_number word ≡ true
unfolding is_short_number is_number
short_number most word few short = grind (arith, few, nat_tests)
