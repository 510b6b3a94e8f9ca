-- The names of the tables of a plan differ, ASCII case aside: those that are given are apart and none of them is that of
-- a number, and the numbers differ.
use Rattle.std.proofs.Common.{◌≡◌, ◌+◌, ◌<◌, ◌≤◌, ◌^◌, ◌&&◌, ◌||◌, ◌∷◌, ℕ, zero, suc, inl, inr, Bool, true, false, List, [], Option, Some, None, length, get_or, refl, ap, subst, ◌∙◌, sym, arith}
use Rattle.std.specs.Prelude.{All, codes, nat_lt, unwrap_or}
use Rattle.std.specs.Char.{is_ascii_digit, to_ascii_lowercase}
use Rattle.std.specs.Fmt.{decimal}
use Rattle.std.specs.List.{list_all}
use Rattle.std.specs.Str.{str_to_ascii_lowercase}
use Rattle.std.proofs.lemmas.Bool.{cases_lt, false_from_ne_true, true≢false}
use Rattle.std.proofs.lemmas.Bool.Decides.{nat_tests}
use Rattle.std.proofs.lemmas.Fmt.{decimal_injective, decimal_nonempty, digits_decimal}
use Rattle.std.proofs.lemmas.List.{length-map}
use Rattle.std.proofs.lemmas.Slice.Eq.{bytes_eq-Decides}
use Rattle.schema_model.specs.Names.{same_name}
use Rattle.schema_model.proofs.NumeralLemmas.{decimal_numeral_model}
use Rattle.plan_printer.specs.NamedPlans.{ApartFrom, AreApart, IsOwnName}
use Rattle.table_names.specs.TableNames.{GivenNames, is_taken, name_of_table, table_name}

-- ---- names, ASCII case aside
same_turned : (a b : List ℕ) → same_name b a ≡ true → same_name a b ≡ true
same_turned a b same = (bytes_eq-Decides (str_to_ascii_lowercase a) (str_to_ascii_lowercase b)).1
    (sym ((bytes_eq-Decides (str_to_ascii_lowercase b) (str_to_ascii_lowercase a)).0 same))

pub apart_turned : (a b : List ℕ) → same_name a b ≡ false → same_name b a ≡ false
apart_turned a b apart = false_from_ne_true (same_name b a) (λ same. true≢false (sym (same_turned a b same) ∙ apart))

pub same_itself : (name : List ℕ) → same_name name name ≡ true
same_itself name = (bytes_eq-Decides (str_to_ascii_lowercase name) (str_to_ascii_lowercase name)).1 refl

-- ---- digits
digits_are : (n : ℕ) → n < 2 ^ 64 → list_all is_ascii_digit (decimal n) ≡ true
digits_are n wide = digits_decimal decimal_numeral_model n wide

-- a digit has one case
low_digits : (bs : List ℕ) → list_all is_ascii_digit bs ≡ true → str_to_ascii_lowercase bs ≡ bs
low_digits [] all = refl
low_digits (b ∷ bs) all = by_first (is_ascii_digit b) refl all (low_digits bs)
  where
    by_first : (v : Bool) → is_ascii_digit b ≡ v → (v && list_all is_ascii_digit bs) ≡ true
        → (list_all is_ascii_digit bs ≡ true → str_to_ascii_lowercase bs ≡ bs)
        → str_to_ascii_lowercase (b ∷ bs) ≡ b ∷ bs
    by_first true is rest later =
        let same : to_ascii_lowercase b ≡ b = grind (arith, nat_tests, is) in
        ap (λ (c : ℕ). c ∷ str_to_ascii_lowercase bs) same ∙ ap (λ (cs : List ℕ). b ∷ cs) (later rest)
    by_first false is rest later = cc

digits_back : (bs : List ℕ) → list_all is_ascii_digit (str_to_ascii_lowercase bs) ≡ true → list_all is_ascii_digit bs ≡ true
digits_back [] all = refl
digits_back (b ∷ bs) all = by_first (is_ascii_digit (to_ascii_lowercase b)) refl all (digits_back bs)
  where
    by_first : (v : Bool) → is_ascii_digit (to_ascii_lowercase b) ≡ v
        → (v && list_all is_ascii_digit (str_to_ascii_lowercase bs)) ≡ true
        → (list_all is_ascii_digit (str_to_ascii_lowercase bs) ≡ true → list_all is_ascii_digit bs ≡ true)
        → list_all is_ascii_digit (b ∷ bs) ≡ true
    by_first true is rest later =
        let same : is_ascii_digit b ≡ true = grind (arith, nat_tests, is) in
        ap (λ (v : Bool). v && list_all is_ascii_digit bs) same ∙ later rest
    by_first false is rest later = cc

-- ---- names by number
lower_equal : (a b : List ℕ) → same_name a b ≡ true → str_to_ascii_lowercase a ≡ str_to_ascii_lowercase b
lower_equal a b same = (bytes_eq-Decides (str_to_ascii_lowercase a) (str_to_ascii_lowercase b)).0 same

lower_numbered : (n : ℕ) → n < 2 ^ 64 → str_to_ascii_lowercase (table_name n) ≡ table_name n
lower_numbered n wide = ap (λ (ds : List ℕ). 116 ∷ ds) (low_digits (decimal n) (digits_are n wide))

numbers_apart : (m n : ℕ) → m < n → n < 2 ^ 64 → same_name (table_name m) (table_name n) ≡ false
numbers_apart m n less wide =
    let low : m < 2 ^ 64 = omega (arith, less, wide) in
    false_from_ne_true (same_name (table_name m) (table_name n)) (λ same.
    let equal : table_name m ≡ table_name n =
    sym (lower_numbered m low) ∙ lower_equal (table_name m) (table_name n) same ∙ lower_numbered n wide in
    let digits : decimal m ≡ decimal n = cc in
    let number = decimal_injective m n low wide digits in omega (arith, number, less))

-- a name that is that of a number is taken
numbered_taken : (name : List ℕ) (n : ℕ) → n < 2 ^ 64 → same_name name (table_name n) ≡ true → is_taken name ≡ true
numbered_taken [] n wide same =
    let equal : [] ≡ table_name n = lower_equal [] (table_name n) same ∙ lower_numbered n wide in cc
numbered_taken (c ∷ cs) n wide same =
    let equal : str_to_ascii_lowercase (c ∷ cs) ≡ 116 ∷ decimal n = lower_equal (c ∷ cs) (table_name n) same ∙ lower_numbered n wide in
    let first : to_ascii_lowercase c ≡ 116 = cc in
    let rest : str_to_ascii_lowercase cs ≡ decimal n = cc in
    let digits : list_all is_ascii_digit cs ≡ true = digits_back cs (ap (list_all is_ascii_digit) rest ∙ digits_are n wide) in
    let size : length (str_to_ascii_lowercase cs) ≡ length cs = length-map cs to_ascii_lowercase in
    let some = decimal_nonempty n wide in
    let many : length (str_to_ascii_lowercase cs) ≡ length (decimal n) = ap (λ (t : List ℕ). length t) rest in
    let long : nat_lt 1 (length (c ∷ cs)) ≡ true = grind (arith, nat_tests, size, some, many) in
    let head : same_name (c ∷ []) (codes "t") ≡ true =
    (bytes_eq-Decides (str_to_ascii_lowercase (c ∷ [])) (str_to_ascii_lowercase (codes "t"))).1 (ap (λ (b : ℕ). b ∷ []) first) in
    all_true (same_name (c ∷ cs) (codes "joined")) (nat_lt 1 (length (c ∷ cs))) (same_name (c ∷ []) (codes "t"))
    (list_all is_ascii_digit cs) long head digits
  where
    all_true : (p q r t : Bool) → q ≡ true → r ≡ true → t ≡ true → (p || (q && r && t)) ≡ true
    all_true p true true true one two three = always p
      where
        always : (b : Bool) → (b || true) ≡ true
        always true = refl
        always false = refl
    all_true p false r t one two three = cc
    all_true p true false t one two three = cc
    all_true p true true false one two three = cc

-- ---- two tables, by what they are given
own_at : (given : GivenNames) (k : ℕ) → All IsOwnName given → IsOwnName (get_or given k None)
own_at given k own = elim (cases_lt k (length given)) [
  | inl within ↦ own k None within
  | inr beyond ↦ subst IsOwnName (sym (past given k beyond)) tt
]
  where
    past : (given : GivenNames) (k : ℕ) → length given ≤ k → get_or given k None ≡ None
    past [] k beyond = refl
    past (name ∷ given) zero beyond = absurd (omega (arith, beyond))
    past (name ∷ given) (suc k) beyond = past given k (omega (arith, beyond))

given_within : (given : GivenNames) (k : ℕ) (name : List ℕ) → get_or given k None ≡ Some name → k < length given
given_within [] k name is = cc
given_within (one ∷ given) zero name is = omega arith
given_within (one ∷ given) (suc k) name is = omega (arith, given_within given k name is)

apart_by : (given : GivenNames) (i j : ℕ) (one other : Option (List ℕ)) → AreApart given → i < j → j + 1 < 2 ^ 64
    → get_or given i None ≡ one → get_or given j None ≡ other
    → same_name (unwrap_or one (table_name (i + 1))) (unwrap_or other (table_name (j + 1))) ≡ false
apart_by given i j None None apart less short first second =
    numbers_apart (i + 1) (j + 1) (omega (arith, less)) short
apart_by given i j (Some name) None apart less short first second =
    let own : is_taken name ≡ false = subst IsOwnName first (own_at given i apart.own) in
    false_from_ne_true (same_name name (table_name (j + 1))) (λ same.
    true≢false (sym (numbered_taken name (j + 1) short same) ∙ own))
apart_by given i j None (Some name) apart less short first second =
    let own : is_taken name ≡ false = subst IsOwnName second (own_at given j apart.own) in
    apart_turned name (table_name (i + 1)) (false_from_ne_true (same_name name (table_name (i + 1))) (λ same.
    true≢false (sym (numbered_taken name (i + 1) (omega (arith, less, short)) same) ∙ own)))
apart_by given i j (Some name) (Some next) apart less short first second =
    let far : ApartFrom (Some name) (Some next) =
    subst (λ (one : Option (List ℕ)). ApartFrom one (Some next)) first
    (subst (λ (other : Option (List ℕ)). ApartFrom (get_or given i None) other) second
    (apart.apart i j None less (given_within given j next second))) in
    apart_turned next name far

-- names of two tables
pub tables_named_apart : (given : GivenNames) (i j : ℕ) → AreApart given → i < j → j + 1 < 2 ^ 64
    → same_name (name_of_table given i) (name_of_table given j) ≡ false
tables_named_apart given i j apart less short =
    apart_by given i j (get_or given i None) (get_or given j None) apart less short refl refl
