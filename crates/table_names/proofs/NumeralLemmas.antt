-- A letter before a number is a name.
use Rattle.std.proofs.Common.{◌≡◌, ℕ, suc, ◌+◌, ◌-◌, ◌%◌, ◌^◌, ◌<◌, ◌≤◌, ◌&&◌, Bool, true, List, [], ◌∷◌, ◌++◌, length, take, drop, get_or, replicate, IsTrue, sym, ap, ◌∙◌, arith, drop-cons}
use Rattle.std.specs.Fmt.{decimal}
use Rattle.std.specs.List.{list_all}
use Rattle.std.proofs.lemmas.Fmt.{decimal_by_steps, length-decimal-le}
use Rattle.std.proofs.lemmas.Bool.Decides.{nat_tests}
use Rattle.std.proofs.lemmas.List.{get_or-take, get_or-replicate, take_all}
use Rattle.std.proofs.lemmas.List.Folds.{list_all-append}
use Rattle.schema_model.specs.Names.{is_bare_name, is_name_byte}
use Rattle.table_names.specs.TableNames.{table_name}

digit_byte : (d : ℕ) → d < 10 → is_name_byte (48 + d) ≡ true
digit_byte d l = grind (arith, nat_tests)

pub digits_pass : (n : ℕ) → n < 2 ^ 64 → list_all is_name_byte (decimal n) ≡ true
digits_pass = decimal_by_steps (λ n ds. list_all is_name_byte ds ≡ true) one more
  where
    one : (n : ℕ) → n < 10 → list_all is_name_byte ((48 + n) ∷ []) ≡ true
    one n l = ap (λ (b : Bool). b && true) (digit_byte n l)

    more : (n : ℕ) (ds : List ℕ) → 10 ≤ n → list_all is_name_byte ds ≡ true
        → list_all is_name_byte (ds ++ ((48 + n % 10) ∷ [])) ≡ true
    more n ds l h =
        let low : n % 10 < 10 = omega arith in
        list_all-append is_name_byte ds ((48 + n % 10) ∷ [])
        ∙ ap (λ (b : Bool). b && (is_name_byte (48 + n % 10) && true)) h
        ∙ ap (λ (b : Bool). b && true) (digit_byte (n % 10) low)

pub is_table_name : (n : ℕ) → n < 2 ^ 32 → IsTrue (is_bare_name (table_name n))
is_table_name n l =
    let wide : n < 2 ^ 64 = omega arith in
    let short : length (decimal n) ≤ 10 = length-decimal-le 10 n (omega arith) (omega arith) wide in
    let pass = digits_pass n wide in
    grind (arith, nat_tests, short, pass)

-- the letter before the digits
pub letter_before : (bytes old : List ℕ) (k start n : ℕ) → start ≡ suc k → start ≤ length bytes
    → drop start bytes ≡ decimal n → take start bytes ≡ take start old
    → get_or old k 0 ≡ 116 → drop k bytes ≡ 116 ∷ decimal n
letter_before bytes old k start n at within digits front letter =
    let low : k < start = omega arith in
    let short : k < length bytes = omega arith in
    let here : get_or bytes k 0 ≡ 116 = sym (get_or-take start bytes k 0 low)
    ∙ ap (λ (l : List ℕ). get_or l k 0) front ∙ get_or-take start old k 0 low ∙ letter in
    let rest : drop (suc k) bytes ≡ decimal n = ap (λ (m : ℕ). drop m bytes) (sym at) ∙ digits in
    drop-cons bytes k 0 short ∙ ap (λ (b : ℕ). b ∷ drop (suc k) bytes) here ∙ ap (λ (l : List ℕ). 116 ∷ l) rest

-- the same as the last bytes of an array whose front holds letters alone
pub last_bytes : (bytes : List ℕ) (k start n : ℕ) → start ≡ suc k → length bytes ≡ 11
    → start + length (decimal n) ≡ 11 → drop start bytes ≡ decimal n
    → take start bytes ≡ take start (replicate 11 116) → take (11 - k) (drop k bytes) ≡ 116 ∷ decimal n
last_bytes bytes k start n at size ends digits front =
    let low : k < 11 = omega arith in
    let letter : get_or (replicate 11 116) k 0 ≡ 116 = get_or-replicate 11 k 116 0 low in
    let whole : length (116 ∷ decimal n) ≤ 11 - k = omega arith in
    ap (λ (l : List ℕ). take (11 - k) l)
    (letter_before bytes (replicate 11 116) k start n at (omega arith) digits front letter)
    ∙ take_all (11 - k) (116 ∷ decimal n) whole
