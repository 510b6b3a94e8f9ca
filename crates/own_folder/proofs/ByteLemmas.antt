-- Whether one of the values that are made of others passes a test.
use Rattle.std.proofs.Common.{◌≡◌, ◌||◌, ℕ, ◌≤◌, Bool, List, [], ◌∷◌, length, map, take, refl, ap, ◌∙◌}
use Rattle.std.specs.List.{list_any}
use Rattle.std.proofs.lemmas.List.{take_all}

-- a test of what is made of values
any_mapped : {X Y : Type 0} (test : Y → Bool) (value : X → Y) (xs : List X) → list_any (λ x. test (value x)) xs ≡ list_any test (map value xs)
any_mapped test value [] = refl
any_mapped test value (x ∷ xs) = ap (λ (rest : Bool). test (value x) || rest) (any_mapped test value xs)

-- all values, once there are no more
pub any_whole : {X Y : Type 0} (test : Y → Bool) (value : X → Y) (xs : List X) (i : ℕ) (found : Bool) → length xs ≤ i
    → found ≡ list_any (λ x. test (value x)) (take i xs) → found ≡ list_any test (map value xs)
any_whole {X} {Y} test value xs i found all is =
    is ∙ ap (list_any (λ (x : X). test (value x))) (take_all i xs all) ∙ any_mapped test value xs
