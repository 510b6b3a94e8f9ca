-- What a look at a name in a folder in memory finds.
use Rattle.std.proofs.Common.{◌≡◌, ◌||◌, Bool, true, false, IsTrue, List, [], ◌∷◌, length, map, refl, ap}
use Rattle.std.specs.List.{list_any}
use Rattle.desk_outside.specs.FreeNames.{is_answer}

-- a test of what is made of values
pub any_mapped : {X Y : Type 0} (test : Y → Bool) (value : X → Y) (xs : List X) → list_any (λ x. test (value x)) xs ≡ list_any test (map value xs)
any_mapped test value [] = refl
any_mapped test value (x ∷ xs) = ap (λ (rest : Bool). test (value x) || rest) (any_mapped test value xs)

-- what was found is an answer of a look
pub true_answer : (free : Bool) → IsTrue (is_answer free free)
true_answer true = refl
true_answer false = refl
