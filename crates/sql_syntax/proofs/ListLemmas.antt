-- Lists with a comma and a blank between: one item more at the end.
use Rattle.std.proofs.Common.{◌≡◌, ◌<◌, ◌+◌, ℕ, zero, suc, Bool, true, List, [], ◌∷◌, ◌++◌, length, get_or, map, take, refl, sym, ap, ◌∙◌, arith, append_assoc, append-nil}
use Rattle.std.specs.Prelude.{if◌then◌else◌, nat_lt}
use Rattle.std.proofs.lemmas.List.Folds.{flat_map-map}
use Rattle.std.proofs.lemmas.Bool.Decides.{nat_tests}
use Rattle.std.proofs.lemmas.List.{take_more, flat_map_more}
use Rattle.sql_syntax.specs.Names.{separator, comma_list, is_not_empty}

pub comma_list-push : {X : Type 0} (text : X → List ℕ) (xs : List X) (x : X)
    → comma_list text (xs ++ x ∷ []) ≡ comma_list text xs ++ (if is_not_empty xs then separator ++ text x else text x)
comma_list-push text [] x = append-nil (text x)
comma_list-push text (y ∷ xs) x = sym (flat_map_more (λ z. separator ++ text z) (text y) xs x)

pub not_empty_pushed : {X : Type 0} (xs : List X) (x : X) → is_not_empty (xs ++ x ∷ []) ≡ true
not_empty_pushed [] x = refl
not_empty_pushed (y ∷ xs) x = refl

-- there are items before each position but the first
pub not_empty_before : {X : Type 0} (xs : List X) (n : ℕ) → n < length xs → is_not_empty (take n xs) ≡ nat_lt 0 n
not_empty_before xs zero lt = refl
not_empty_before [] (suc n) lt = absurd (omega (arith, lt))
not_empty_before (x ∷ xs) (suc n) lt = let not_empty : nat_lt 0 (suc n) ≡ true = grind (arith, nat_tests) in sym not_empty

-- the texts of a function's values
pub comma_list-map : {X Y : Type 0} (f : Y → List ℕ) (g : X → Y) (xs : List X) → comma_list f (map g xs) ≡ comma_list (λ x. f (g x)) xs
comma_list-map f g [] = refl
comma_list-map f g (x ∷ xs) = ap (λ (t : List ℕ). f (g x) ++ t) (flat_map-map (λ y. separator ++ f y) g xs)

-- two parts are added
pub append_two : (old a b mid new : List ℕ) → mid ≡ old ++ a → new ≡ mid ++ b → new ≡ old ++ (a ++ b)
append_two old a b mid new first second = second ∙ ap (λ (t : List ℕ). t ++ b) first ∙ append_assoc old a b

-- the items before a position, and the one that is there
pub listed_next : {X : Type 0} (text : X → List ℕ) (xs : List X) (i : ℕ) (x d : X) (old before after piece : List ℕ)
    → i < length xs → x ≡ get_or xs i d → before ≡ old ++ comma_list text (take i xs) → piece ≡ text x
    → after ≡ before ++ (if nat_lt 0 i then separator ++ piece else piece)
    → after ≡ old ++ comma_list text (take (i + 1) xs)
listed_next text xs i x d old before after piece within is before_is piece_is after_is =
    append_two old (comma_list text (take i xs)) (if nat_lt 0 i then separator ++ piece else piece) before after before_is after_is
    ∙ ap (λ (p : List ℕ). old ++ (comma_list text (take i xs) ++ (if nat_lt 0 i then separator ++ p else p)))
    (piece_is ∙ ap text is)
    ∙ ap (λ (b : Bool). old ++ (comma_list text (take i xs)
    ++ (if b then separator ++ text (get_or xs i d) else text (get_or xs i d)))) (sym (not_empty_before xs i within))
    ∙ ap (λ (t : List ℕ). old ++ t) (sym (comma_list-push text (take i xs) (get_or xs i d)))
    ∙ ap (λ ys. old ++ comma_list text ys) (sym (take_more xs i d within))
