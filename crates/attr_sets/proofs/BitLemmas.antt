-- What each operation on numbers does to the test of a bit, at any width.
use Rattle.std.proofs.Common.{◌≡◌, ℕ, Bool, cond, pow-suc, zero, suc, ◌+◌, ◌-◌, ◌*◌, ◌/◌, ◌%◌, ◌^◌, ◌<◌, ◌≤◌, true, false, not, ◌&&◌, ◌||◌, nat_lt, nat_eq, ◌==◌, bit_and, bit_or, count_ones, sym, ap, ◌∙◌, ⊎_elim, arith}
use Rattle.std.specs.Int.{Width, bit_at, bit_not, trailing_zeros}
use mir.Val.{bits}
use Rattle.std.specs.Bool.{Decides}
use Rattle.std.proofs.lemmas.Bool.{cases_eq, cases_lt, eqb-true, eq-eqb}
use Rattle.std.proofs.lemmas.Bool.Decides.{nat_tests}
use Rattle.std.proofs.lemmas.Nat.{one_shl, ones_cat, mod-pow-add, pow_pos, and_le_l, ones_le_self, zero_from_ones}
use Rattle.std.proofs.Math.Nat.{mod-eq_of_lt}
use Rattle.std.proofs.lemmas.Nat.Bits.{bit_at_and, bit_at_or, bit_at_not, bit_at-zero, bit_at-pow_same, bit_at-pow_other, bit_at_ones, bit_at_ones_above, ones_shr, bit_at-lt, bit_at-trailing_zeros, same_from_bits_below, shr_and_one, bit_at_lowest, bit_at-suc}
use Rattle.attr_sets.specs.Attributes.{IsFirstFrom, IsSubset, count_below}
use Rattle.attr_sets.specs.Sets.{has_bit}

pub has_bit-or : (width a b k : ℕ) → has_bit width (bit_or a b) k ≡ (has_bit width a k || has_bit width b k)
unfolding has_bit
has_bit-or width a b k = grind (arith, nat_tests, bit_at_or a b k, bit_at-lt a k, bit_at-lt b k)

pub has_bit-and : (width a b k : ℕ) → has_bit width (bit_and a b) k ≡ (has_bit width a k && has_bit width b k)
unfolding has_bit
has_bit-and width a b k = grind (arith, nat_tests, bit_at_and a b k, bit_at-lt a k, bit_at-lt b k)

pub has_bit-and_not : (w : Width) (a b k : ℕ) → b < 2 ^ bits w
    → has_bit (bits w) (bit_and a (bit_not w b)) k ≡ (has_bit (bits w) a k && not (has_bit (bits w) b k))
unfolding has_bit
has_bit-and_not w a b k fits = grind (arith, nat_tests, bit_at_and a (bit_not w b) k, bit_at_not w b k fits, bit_at-lt a k, bit_at-lt b k)

pub has_bit-zero : (width k : ℕ) → has_bit width 0 k ≡ false
unfolding has_bit
has_bit-zero width k = grind (arith, nat_tests, bit_at-zero k)

pub has_bit-pow : (width i k : ℕ) → i < width → has_bit width (2 ^ i) k ≡ (k == i)
unfolding has_bit
has_bit-pow width i k within =
    ⊎_elim (λ (same : k ≡ i). grind (arith, nat_tests, bit_at-pow_same i, ap (bit_at (2 ^ i)) same)) (λ apart. grind (arith, nat_tests, bit_at-pow_other i k apart)) (cases_eq k i)

-- `1 << i`
pub has_bit-shl_one : (w : Width) (i k : ℕ) → i < bits w → has_bit (bits w) (1 * 2 ^ i % 2 ^ bits w) k ≡ (k == i)
has_bit-shl_one w i k within = ap (λ n. has_bit (bits w) n k) (one_shl i (bits w) within) ∙ has_bit-pow (bits w) i k within

-- `n | 1 << i`
pub has_bit-set : (w : Width) (n i k : ℕ) → i < bits w
    → has_bit (bits w) (bit_or n (1 * 2 ^ i % 2 ^ bits w)) k ≡ (has_bit (bits w) n k || (k == i))
has_bit-set w n i k within =
    has_bit-or (bits w) n (1 * 2 ^ i % 2 ^ bits w) k ∙ ap (λ b. has_bit (bits w) n k || b) (has_bit-shl_one w i k within)

-- `n & !(1 << i)`
pub has_bit-clear : (w : Width) (n i k : ℕ) → i < bits w
    → has_bit (bits w) (bit_and n (bit_not w (1 * 2 ^ i % 2 ^ bits w))) k ≡ (has_bit (bits w) n k && not (k == i))
has_bit-clear w n i k within =
    let fits : 1 * 2 ^ i % 2 ^ bits w < 2 ^ bits w = omega (arith, pow_pos (bits w)) in
    has_bit-and_not w n (1 * 2 ^ i % 2 ^ bits w) k fits ∙ ap (λ b. has_bit (bits w) n k && not b) (has_bit-shl_one w i k within)

-- `MAX` at n bits
pub has_bit-ones : (width n k : ℕ) → n ≤ width → has_bit width (2 ^ n - 1) k ≡ nat_lt k n
unfolding has_bit
has_bit-ones width n k within =
    ⊎_elim (λ (low : k < n). grind (arith, nat_tests, bit_at_ones n k low)) (λ (high : n ≤ k). grind (arith, nat_tests, bit_at_ones_above n k high)) (cases_lt k n)

-- `MAX >> (width - n)`
pub has_bit-shr_ones : (width n k : ℕ) → n ≤ width → has_bit width ((2 ^ width - 1) / 2 ^ (width - n)) k ≡ nat_lt k n
has_bit-shr_ones width n k within =
    let left : width - (width - n) ≡ n = omega arith in
    let low : (2 ^ width - 1) / 2 ^ (width - n) ≡ 2 ^ n - 1 = ones_shr width (width - n) (omega arith) ∙ ap (λ j. 2 ^ j - 1) left in
    ap (λ m. has_bit width m k) low ∙ has_bit-ones width n k within

-- the test `(n >> k) & 1 == 1`
pub has_bit-shr : (width n k : ℕ) → k < width → nat_eq (bit_and (n / 2 ^ k) 1) 1 ≡ has_bit width n k
unfolding has_bit
has_bit-shr width n k within = grind (arith, nat_tests, shr_and_one n k)

-- a set bit lies below the width
pub has_bit-below : (width n k : ℕ) → has_bit width n k ≡ true → nat_lt k width ≡ true
unfolding has_bit
has_bit-below width n k set = grind (arith, nat_tests)

-- numbers below 2 ^ width with the same bits are equal
pub same_from_has_bit : (width a b : ℕ) → a < 2 ^ width → b < 2 ^ width → ((k : ℕ) → has_bit width a k ≡ has_bit width b k) → a ≡ b
unfolding has_bit
same_from_has_bit width a b a_fits b_fits same =
    same_from_bits_below width a b a_fits b_fits (λ k within. grind (arith, nat_tests, same k, bit_at-lt a k, bit_at-lt b k))

pub zero_from_has_bit : (width n : ℕ) → n < 2 ^ width → ((k : ℕ) → has_bit width n k ≡ false) → n ≡ 0
zero_from_has_bit width n fits clear =
    same_from_has_bit width n 0 fits (pow_pos width) (λ k. clear k ∙ sym (has_bit-zero width k))

-- the test `a & !b == 0`
pub and_not-zero : (w : Width) (a b : ℕ) → a < 2 ^ bits w → b < 2 ^ bits w
    → Decides (nat_eq (bit_and a (bit_not w b)) 0) (IsSubset (has_bit (bits w) a) (has_bit (bits w) b))
and_not-zero w a b a_fits b_fits =
    let rest = bit_and a (bit_not w b) in
    let fits : rest < 2 ^ bits w = omega (arith, and_le_l a (bit_not w b)) in (
      λ none k member.
          let clear : has_bit (bits w) rest k ≡ false = ap (λ n. has_bit (bits w) n k) (eqb-true rest 0 none) ∙ has_bit-zero (bits w) k in
          grind (arith, clear, has_bit-and_not w a b k b_fits, member),
      λ within. eq-eqb rest 0 (zero_from_has_bit (bits w) rest fits (λ k. grind (arith, has_bit-and_not w a b k b_fits, within k))),
    )

-- the lowest set bit of a number is the first member of its set
pub trailing_zeros-least : (w : Width) (n : ℕ) → 0 < n → n < 2 ^ bits w → IsFirstFrom (has_bit (bits w) n) 0 (trailing_zeros w n)
unfolding has_bit
trailing_zeros-least w n not_empty fits =
    let lowest = bit_at-trailing_zeros w n not_empty fits in
    let within : trailing_zeros w n < bits w = lowest.0 in
    record {
      from_on = omega arith;
      member = grind (arith, nat_tests, within, lowest.1);
      least = λ k from below. grind (arith, nat_tests, lowest.2 k below);
    }

-- ---- the number whose bits are the members of a set

bits_of : (n : ℕ) (x : ℕ → Bool) → (m : ℕ) × (m < 2 ^ n) × ((k : ℕ) → k < n → bit_at m k ≡ cond (x k) 1 0)
bits_of zero x = (0, omega arith, λ k lt. absurd (omega arith))
bits_of (suc n) x =
    let high = bits_of n (λ k. x (suc k)) in
    let low : ℕ = cond (x 0) 1 0 in
    let within_limit : low < 2 = grind arith in
    let m : ℕ = 2 * high.0 + low in
    let half : m / 2 ≡ high.0 = omega arith in
    (m, omega (arith, high.1, pow-suc 2 n), λ k lt. elim_bit n x m half (omega (arith, bit_at_lowest m)) high.2 k lt)
  where
    elim_bit : (n : ℕ) (x : ℕ → Bool) (m : ℕ) {h : ℕ} → m / 2 ≡ h → bit_at m 0 ≡ cond (x 0) 1 0 → ((k : ℕ) → k < n → bit_at h k ≡ cond (x (suc k)) 1 0) → (k : ℕ) → k < suc n → bit_at m k ≡ cond (x k) 1 0
    elim_bit n x m half lowest later zero lt = lowest
    elim_bit n x m half lowest later (suc k) lt = bit_at-suc m k ∙ ap (λ j. bit_at j k) half ∙ later k (omega arith)

pub number_with_bits : (width : ℕ) (x : ℕ → Bool) → ((k : ℕ) → x k ≡ true → nat_lt k width ≡ true) → (n : ℕ) × (n < 2 ^ width) × ((k : ℕ) → has_bit width n k ≡ x k)
unfolding has_bit
number_with_bits width x low =
    let found = bits_of width x in (
      found.0,
      found.1,
      λ k. ⊎_elim
          (λ (within : k < width). grind (arith, nat_tests, found.2 k within))
          (λ (above : width ≤ k). grind (arith, nat_tests, low k))
          (cases_lt k width),
    )

-- ---- how many bits are set

count_ones-bit : (n : ℕ) → n < 2 → count_ones n ≡ n
count_ones-bit n fits = grind (arith, ones_le_self n, zero_from_ones n)

low_bits-suc : (n m : ℕ) → n % 2 ^ suc m ≡ bit_at n m * 2 ^ m + n % 2 ^ m
low_bits-suc n m = let one : suc m ≡ 1 + m = omega arith in ap (λ k. n % 2 ^ k) one ∙ mod-pow-add n 1 m

-- the low m bits of n
count_ones-low : (width n m : ℕ) → m ≤ width → count_ones (n % 2 ^ m) ≡ count_below (has_bit width n) m
unfolding has_bit count_below
count_ones-low width n zero within = omega (arith, ones_le_self (n % 1))
count_ones-low width n (suc m) within =
    let low : n % 2 ^ m < 2 ^ m = omega (arith, pow_pos m) in
    let split : count_ones (n % 2 ^ suc m) ≡ count_ones (bit_at n m) + count_ones (n % 2 ^ m) = ap count_ones (low_bits-suc n m) ∙ ones_cat m (bit_at n m) (n % 2 ^ m) low in
    grind (arith, nat_tests, split, count_ones-bit (bit_at n m) (bit_at-lt n m), bit_at-lt n m, count_ones-low width n m (omega arith))

pub count_ones-count_below : (width n : ℕ) → n < 2 ^ width → count_ones n ≡ count_below (has_bit width n) width
count_ones-count_below width n fits = ap count_ones (sym (mod-eq_of_lt fits)) ∙ count_ones-low width n width (omega arith)
