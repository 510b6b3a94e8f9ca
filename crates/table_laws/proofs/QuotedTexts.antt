-- A text between single quotes tells the text: the texts of two different values differ.
use Rattle.std.proofs.Common.{◌≡◌, ℕ, ◌+◌, ◌<◌, Bool, true, false, List, [], ◌∷◌, ◌++◌, length, refl, sym, ap, ap₂, ◌∙◌, arith, append_assoc}
use Rattle.std.specs.Prelude.{◌==◌, ◌&&◌, if◌then◌else◌, codes}
use Rattle.std.proofs.lemmas.Bool.{and_parts, eqb-true, true≢false}
use Rattle.std.proofs.lemmas.List.{length-append}
use Rattle.destinations.specs.Sql.{escape_after, escaped_after, quoted_text}

abbrev first_of : List ℕ → ℕ
first_of [] = 0
first_of (x ∷ xs) = x

abbrev rest_of : List ℕ → List ℕ
rest_of [] = []
rest_of (x ∷ xs) = xs

-- how a byte is written: parted from the one before it, doubled, or as it is
abbrev written : Bool → Bool → ℕ → List ℕ
written parted quoted byte =
    if parted then codes "' || '" ++ 10 ∷ [] else if quoted then 39 ∷ 39 ∷ [] else byte ∷ []

abbrev is_parted : ℕ → ℕ → Bool
is_parted last byte = last == 13 && byte == 10

not_empty : (parted quoted : Bool) (byte : ℕ) → 0 < length (written parted quoted byte)
not_empty true quoted byte = omega arith
not_empty false true byte = omega arith
not_empty false false byte = let one : length (byte ∷ []) ≡ 1 = refl in omega (arith, one)

-- where the text ends, no byte stands
not_at_end : (last byte : ℕ) (rest : List ℕ) → 39 ∷ [] ≡ (escape_after last byte ++ rest) ++ 39 ∷ [] → ⊥
not_at_end last byte rest same =
    let front = escape_after last byte in
    let lengths : 1 ≡ (length front + length rest) + 1 = ap (λ (xs : List ℕ). length xs) same ∙ length-append (front ++ rest) (39 ∷ []) ∙ ap (λ n. n + 1) (length-append front rest) in
    let some : 0 < length front = not_empty (is_parted last byte) (byte == 39) byte in
    omega (arith, lengths, some)

-- what a byte is that stands before the same text as another one
pub record SameStep (x y : ℕ) (r s : List ℕ) : Type 0 where
  pub byte : x ≡ y
  pub rest : r ≡ s

same_step : (last x y : ℕ) (r s : List ℕ) → escape_after last x ++ r ≡ escape_after last y ++ s → SameStep x y r s
same_step last x y r s = at (is_parted last x) (is_parted last y) (x == 39) (y == 39) refl refl refl refl
  where
    at : (p q f g : Bool) → is_parted last x ≡ p → is_parted last y ≡ q → (x == 39) ≡ f → (y == 39) ≡ g
        → written p f x ++ r ≡ written q g y ++ s → SameStep x y r s
    at true true f g px py fx gy same = record {
      byte = eqb-true x 10 (and_parts (last == 13) (x == 10) px).1 ∙ sym (eqb-true y 10 (and_parts (last == 13) (y == 10) py).1);
      rest = ap (λ (xs : List ℕ). rest_of (rest_of (rest_of (rest_of (rest_of (rest_of (rest_of xs))))))) same;
    }
    at true false f true px py fx gy same =
        let second : 32 ≡ 39 = ap (λ (xs : List ℕ). first_of (rest_of xs)) same in
        absurd (omega (arith, second))
    at true false f false px py fx gy same =
        absurd (true≢false (ap (λ (n : ℕ). n == 39) (ap first_of same) ∙ gy))
    at false true true g px py fx gy same =
        let second : 39 ≡ 32 = ap (λ (xs : List ℕ). first_of (rest_of xs)) same in
        absurd (omega (arith, second))
    at false true false g px py fx gy same =
        absurd (true≢false (ap (λ (n : ℕ). n == 39) (sym (ap first_of same)) ∙ fx))
    at false false true true px py fx gy same = record {
      byte = eqb-true x 39 fx ∙ sym (eqb-true y 39 gy);
      rest = ap (λ (xs : List ℕ). rest_of (rest_of xs)) same;
    }
    at false false true false px py fx gy same =
        absurd (true≢false (ap (λ (n : ℕ). n == 39) (ap first_of same) ∙ gy))
    at false false false true px py fx gy same =
        absurd (true≢false (ap (λ (n : ℕ). n == 39) (sym (ap first_of same)) ∙ fx))
    at false false false false px py fx gy same = record { byte = ap first_of same; rest = ap rest_of same }

-- bytes between single quotes are told by their text
told : (last : ℕ) (xs ys : List ℕ) → escaped_after last xs ++ 39 ∷ [] ≡ escaped_after last ys ++ 39 ∷ [] → xs ≡ ys
told last [] [] same = refl
told last [] (y ∷ ys) same = absurd (not_at_end last y (escaped_after y ys) same)
told last (x ∷ xs) [] same = absurd (not_at_end last x (escaped_after x xs) (sym same))
told last (x ∷ xs) (y ∷ ys) same =
    let step = same_step last x y (escaped_after x xs ++ 39 ∷ []) (escaped_after y ys ++ 39 ∷ [])
    (sym (append_assoc (escape_after last x) (escaped_after x xs) (39 ∷ []))
    ∙ same ∙ append_assoc (escape_after last y) (escaped_after y ys) (39 ∷ [])) in
    ap₂ (λ (b : ℕ) (bs : List ℕ). b ∷ bs) step.byte
    (told x xs ys (step.rest ∙ ap (λ (b : ℕ). escaped_after b ys ++ 39 ∷ []) (sym step.byte)))

pub texts_tell_values : (one other : List ℕ) → quoted_text one ≡ quoted_text other → one ≡ other
texts_tell_values one other same = told 0 one other (ap rest_of same)
