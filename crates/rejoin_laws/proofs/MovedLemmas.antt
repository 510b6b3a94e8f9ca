-- Lists in another order: what stands beside their members, and their groups.
use Rattle.std.proofs.Common.{◌≡◌, ◌+◌, ◌<◌, ◌≤◌, ◌==◌, ℕ, zero, suc, Bool, true, false, if◌then◌else◌, List, [], ◌∷◌, ◌++◌, length, get_or, set, swap, refl, sym, ap, subst, ◌∙◌, arith, IsPermutation}
use Rattle.std.specs.Prelude.{All, Contains}
use Rattle.std.specs.List.{AllZip}
use Rattle.std.proofs.lemmas.Bool.Decides.{nat_tests}
use Rattle.std.proofs.lemmas.List.{append-nil}
use Rattle.std.proofs.lemmas.List.Elements.{All-head, All-tail}
use Rattle.std.proofs.lemmas.List.Sorted.{IsPermutation-append, IsPermutation-cons, IsPermutation-keeps, IsPermutation-middle, IsPermutation-refl, IsPermutation-swap, IsPermutation-sym, IsPermutation-trans}
use Rattle.dep_model.proofs.ListLemmas.{Contains-head, Contains-later}
use Rattle.design_order.specs.Order.{grouped_below, with_number}
use Rattle.rejoin_laws.proofs.ZipLemmas.{beside_member}

-- ---- beside one another
module _ {X Y : Type 0} (R : X → Y → Type 0) where
  pub zip_long : (xs : List X) (ys : List Y) → AllZip R xs ys → length xs ≡ length ys
  zip_long [] [] each = refl
  zip_long [] (y ∷ ys) each = absurd each
  zip_long (x ∷ xs) [] each = absurd each
  zip_long (x ∷ xs) (y ∷ ys) each = ap (λ (m : ℕ). suc m) (zip_long xs ys each.1)

  zip_at : (xs : List X) (ys : List Y) (i : ℕ) (x : X) (y : Y) → AllZip R xs ys → i < length xs → R (get_or xs i x) (get_or ys i y)
  zip_at [] ys i x y each low = absurd (omega (arith, low))
  zip_at (a ∷ xs) [] i x y each low = absurd each
  zip_at (a ∷ xs) (b ∷ ys) zero x y each low = each.0
  zip_at (a ∷ xs) (b ∷ ys) (suc i) x y each low = zip_at xs ys i x y each.1 (omega (arith, low))

  zip_set : (xs : List X) (ys : List Y) (i : ℕ) (x : X) (y : Y) → AllZip R xs ys → R x y → AllZip R (set xs i x) (set ys i y)
  zip_set [] [] i x y each one = tt
  zip_set [] (b ∷ ys) i x y each one = absurd each
  zip_set (a ∷ xs) [] i x y each one = absurd each
  zip_set (a ∷ xs) (b ∷ ys) zero x y each one = (one, each.1)
  zip_set (a ∷ xs) (b ∷ ys) (suc i) x y each one = (each.0, zip_set xs ys i x y each.1 one)

  zip_swap : (xs : List X) (ys : List Y) (i j : ℕ) → AllZip R xs ys → i < length xs → j < length xs
      → AllZip R (swap xs i j) (swap ys i j)
  zip_swap [] [] i j each first second = tt
  zip_swap [] (y ∷ ys) i j each first second = absurd each
  zip_swap (x ∷ xs) [] i j each first second = absurd each
  zip_swap (x ∷ xs) (y ∷ ys) i j each first second =
      zip_set (set (x ∷ xs) i (get_or (x ∷ xs) j x)) (set (y ∷ ys) i (get_or (y ∷ ys) j y)) j
      (get_or (x ∷ xs) i x) (get_or (y ∷ ys) i y)
      (zip_set (x ∷ xs) (y ∷ ys) i (get_or (x ∷ xs) j x) (get_or (y ∷ ys) j y) each (zip_at (x ∷ xs) (y ∷ ys) j x y each second))
      (zip_at (x ∷ xs) (y ∷ ys) i x y each first)

  -- in another order the same stands beside each
  pub zip_moved : (xs others : List X) (ys : List Y) → IsPermutation xs others → AllZip R xs ys
      → (zs : List Y) × IsPermutation ys zs × AllZip R others zs
  zip_moved xs others ys moved each =
      IsPermutation-keeps xs (λ (us : List X). (zs : List Y) × IsPermutation ys zs × AllZip R us zs)
      (ys, IsPermutation-refl ys, each)
      (λ us i j first second found.
      let long = zip_long us found.0 found.2 in (
        swap found.0 i j,
        IsPermutation-trans ys found.0 (swap found.0 i j) found.1
            (IsPermutation-swap found.0 (swap found.0 i j) i j (omega (arith, first, long)) (omega (arith, second, long)) refl),
        zip_swap us found.0 i j found.2 first second,
      )) others moved

  -- what stands beside members of a list stands beside them elsewhere
  pub zip_found : (xs others : List X) (ys : List Y) → AllZip R xs ys → ((x : X) → Contains others x → Contains xs x)
      → (zs : List Y) × AllZip R others zs
  zip_found xs [] ys each among = ([], tt)
  zip_found xs (x ∷ others) ys each among =
      let (y, y_in, is) = beside_member R xs ys each x (among x (Contains-head x others)) in
      let (zs, rest) = zip_found xs others ys each (λ u u_in. among u (Contains-later x others u u_in)) in
      (y ∷ zs, (is, rest))

-- ---- in groups
module _ {X : Type 0} where
  grouped_none : (number : ℕ) (ms : List ℕ) → grouped_below {X = X} number [] ms ≡ []
  grouped_none zero ms = refl
  grouped_none (suc number) ms = append-nil (grouped_below number [] ms) ∙ grouped_none number ms

  -- a number that is not below the others'
  grouped_past : (number : ℕ) (x : X) (m : ℕ) (xs : List X) (ms : List ℕ) → number ≤ m
      → grouped_below number (x ∷ xs) (m ∷ ms) ≡ grouped_below number xs ms
  grouped_past zero x m xs ms past = refl
  grouped_past (suc number) x m xs ms past =
      let other : (m == number) ≡ false = grind (arith, nat_tests, past) in
      ap (λ (b : Bool). grouped_below number (x ∷ xs) (m ∷ ms) ++ (if b then x ∷ with_number number xs ms else with_number number xs ms)) other
      ∙ ap (λ (l : List X). l ++ with_number number xs ms) (grouped_past number x m xs ms (omega (arith, past)))

  grouped_first : (number : ℕ) (x : X) (m : ℕ) (xs : List X) (ms : List ℕ) → m < number
      → IsPermutation (x ∷ grouped_below number xs ms) (grouped_below number (x ∷ xs) (m ∷ ms))
  grouped_first zero x m xs ms low = absurd (omega (arith, low))
  grouped_first (suc number) x m xs ms low =
      by_test (m == number) refl (λ less. grouped_first number x m xs ms less)
    where
      by_test : (b : Bool) → (m == number) ≡ b
          → (m < number → IsPermutation (x ∷ grouped_below number xs ms) (grouped_below number (x ∷ xs) (m ∷ ms)))
          → IsPermutation (x ∷ (grouped_below number xs ms ++ with_number number xs ms))
          (grouped_below number (x ∷ xs) (m ∷ ms) ++ (if b then x ∷ with_number number xs ms else with_number number xs ms))
      by_test true same later =
          let past : number ≤ m = grind (arith, nat_tests, same) in
          subst (λ (l : List X). IsPermutation (x ∷ (grouped_below number xs ms ++ with_number number xs ms)) (l ++ x ∷ with_number number xs ms))
          (sym (grouped_past number x m xs ms past))
          (IsPermutation-sym (grouped_below number xs ms ++ x ∷ with_number number xs ms) (x ∷ (grouped_below number xs ms ++ with_number number xs ms))
          (IsPermutation-middle (grouped_below number xs ms) x (with_number number xs ms)))
      by_test false other later =
          let less : m < number = grind (arith, nat_tests, other, low) in
          IsPermutation-append (x ∷ grouped_below number xs ms) (grouped_below number (x ∷ xs) (m ∷ ms)) (with_number number xs ms) (with_number number xs ms)
          (later less) (IsPermutation-refl (with_number number xs ms))

  -- the groups have the members of the list, each as often
  pub grouped_moved : (number : ℕ) (xs : List X) (ms : List ℕ) → length ms ≡ length xs → All (λ (m : ℕ). m < number) ms
      → IsPermutation xs (grouped_below number xs ms)
  grouped_moved number [] ms long small = subst (λ (l : List X). IsPermutation [] l) (sym (grouped_none number ms)) (IsPermutation-refl [])
  grouped_moved number (x ∷ xs) [] long small = absurd (omega (arith, long))
  grouped_moved number (x ∷ xs) (m ∷ ms) long small =
      IsPermutation-trans (x ∷ xs) (x ∷ grouped_below number xs ms) (grouped_below number (x ∷ xs) (m ∷ ms))
      (IsPermutation-cons x xs (grouped_below number xs ms)
      (grouped_moved number xs ms (omega (arith, long)) (All-tail (λ (k : ℕ). k < number) m ms small)))
      (grouped_first number x m xs ms (All-head (λ (k : ℕ). k < number) m ms small))
