-- The value of a run of digits, from the left.
use Rattle.std.proofs.Common.{◌≡◌, ◌<◌, ◌≤◌, ◌+◌, ◌-◌, ◌*◌, ◌^◌, ℕ, Bool, true, false, List, length, take, get_or, arith, add-one, pow-suc, refl}
use Rattle.std.proofs.lemmas.Bool.Decides.{nat_tests}
use Rattle.std.proofs.lemmas.List.Folds.{list_all_at}
use Rattle.std.proofs.lemmas.List.Sums.{fold_more}
use Rattle.std.proofs.Math.Nat.{pow-le-pow_right}
use Rattle.std.specs.Char.{is_ascii_digit}
use Rattle.std.specs.List.{list_all}
use Rattle.lexer.specs.Bytes.{is_number, number_of}

-- the value of the first digits
pub record SoFar (run : List ℕ) (index value : ℕ) : Type 0 where
  pub read : value ≡ number_of (take index run)
  pub small : value < 10 ^ index

pub record IsDigit (digit : ℕ) : Type 0 where
  pub low : 48 ≤ digit
  pub high : digit ≤ 57

pub IsDigit-from : (d : ℕ) → is_ascii_digit d ≡ true → IsDigit d
IsDigit-from d e = record { low = grind (arith, nat_tests); high = grind (arith, nat_tests) }

all_digits : (run : List ℕ) → is_number run ≡ true → list_all is_ascii_digit run ≡ true
unfolding is_number
all_digits run e = grind (arith, nat_tests)

pub digit_at : (run : List ℕ) (i : ℕ) → is_number run ≡ true → i < length run → IsDigit (get_or run i 0)
digit_at run i e h = IsDigit-from (get_or run i 0) (at (is_ascii_digit (get_or run i 0)) refl)
  where
    at : (b : Bool) → is_ascii_digit (get_or run i 0) ≡ b → is_ascii_digit (get_or run i 0) ≡ true
    at true f = f
    at false f = let wrong : list_all is_ascii_digit run ≡ false = list_all_at is_ascii_digit run i 0 h f in let right : list_all is_ascii_digit run ≡ true = all_digits run e in cc

pub number-length : (run : List ℕ) → is_number run ≡ true → length run ≤ 9
unfolding is_number
number-length run e = grind (arith, nat_tests)

pub SoFar-next : (run : List ℕ) (i v x : ℕ) → i < length run → x ≡ get_or run i 0 - 48 → IsDigit (get_or run i 0) → SoFar run i v → SoFar run (i + 1) (v * 10 + x)
SoFar-next run i v x h e digit so_far = record {
  read = let whole : number_of (take (i + 1) run) ≡ number_of (take i run) * 10 + (get_or run i 0 - 48) = fold_more (λ value d. value * 10 + (d - 48)) 0 run i 0 h in cc;
  small = let grown : 10 ^ (i + 1) ≡ 10 ^ i * 10 = rw add-one (pow-suc 10 i) in let value = so_far.small in let high = digit.high in omega arith;
}

-- a value of fewer digits than a number may have is below 10 ^ 8, so one digit more fits in 32 bits
pub fits_u32_below : (i v n : ℕ) → v < 10 ^ i → i < n → n ≤ 9 → v < 10 ^ 8
fits_u32_below i v n small below short =
    let at_most_8 : i ≤ 8 = omega arith in
    let grown : 10 ^ i ≤ 10 ^ 8 = pow-le-pow_right (omega arith) at_most_8 in omega arith
