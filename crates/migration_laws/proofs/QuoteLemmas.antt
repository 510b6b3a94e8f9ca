-- Two names that are one between double quotes are one.
use Rattle.std.proofs.Common.{◌≡◌, ◌+◌, ◌==◌, ℕ, Bool, true, false, List, [], ◌∷◌, ◌++◌, length, refl, sym, ap, ap₂, ◌∙◌, arith}
use Rattle.std.proofs.lemmas.Bool.{eqb-true, true≢false}
use Rattle.std.proofs.lemmas.List.{length-append}
use Rattle.std.specs.Prelude.{if◌then◌else◌}
use Rattle.schema_model.specs.Names.{quotes_doubled}
use Rattle.sql_syntax.specs.Names.{quoted_name}

abbrev first_of : List ℕ → ℕ
first_of [] = 0
first_of (b ∷ bytes) = b

abbrev rest_of : List ℕ → List ℕ
rest_of [] = []
rest_of (b ∷ bytes) = bytes

-- a byte as it is written, before what follows and the last quote
abbrev written : Bool → ℕ → List ℕ → List ℕ
written quote b rest = ((if quote then 34 ∷ 34 ∷ [] else b ∷ []) ++ rest) ++ 34 ∷ []

not_at_end : (quote : Bool) (b : ℕ) (rest : List ℕ) → 34 ∷ [] ≡ written quote b rest → ⊥
not_at_end true b rest same = let long : 1 ≡ length (written true b rest) = ap (λ (bs : List ℕ). length bs) same in omega (arith, long)
not_at_end false b rest same =
    let long : 1 ≡ length (b ∷ (rest ++ 34 ∷ [])) = ap (λ (bs : List ℕ). length bs) same in
    let more : length (rest ++ 34 ∷ []) ≡ length rest + 1 = length-append rest (34 ∷ []) in
    omega (arith, long, more)

same_step : (p q : Bool) (x y : ℕ) (r s : List ℕ) → (x == 34) ≡ p → (y == 34) ≡ q → written p x r ≡ written q y s
    → (x ≡ y) × (r ++ 34 ∷ [] ≡ s ++ 34 ∷ [])
same_step true true x y r s px qy same = (eqb-true x 34 px ∙ sym (eqb-true y 34 qy), ap (λ (bs : List ℕ). rest_of (rest_of bs)) same)
same_step true false x y r s px qy same = absurd (true≢false (ap (λ (n : ℕ). n == 34) (ap first_of same) ∙ qy))
same_step false true x y r s px qy same = absurd (true≢false (ap (λ (n : ℕ). n == 34) (sym (ap first_of same)) ∙ px))
same_step false false x y r s px qy same = (ap first_of same, ap rest_of same)

doubled_once : (xs ys : List ℕ) → quotes_doubled xs ++ 34 ∷ [] ≡ quotes_doubled ys ++ 34 ∷ [] → xs ≡ ys
unfolding quotes_doubled
doubled_once [] [] same = refl
doubled_once [] (y ∷ ys) same = absurd (not_at_end (y == 34) y (quotes_doubled ys) same)
doubled_once (x ∷ xs) [] same = absurd (not_at_end (x == 34) x (quotes_doubled xs) (sym same))
doubled_once (x ∷ xs) (y ∷ ys) same =
    let step = same_step (x == 34) (y == 34) x y (quotes_doubled xs) (quotes_doubled ys) refl refl same in
    ap₂ (λ (b : ℕ) (bs : List ℕ). b ∷ bs) step.0 (doubled_once xs ys step.1)

pub quoted_once : (one other : List ℕ) → quoted_name one ≡ quoted_name other → one ≡ other
quoted_once one other same = doubled_once one other (ap rest_of same)
