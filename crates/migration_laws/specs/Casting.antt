-- An engine's cast of the texts of integers: for the law that a strict engine is fair. `Desk` does not cite it.
use Rattle.std.specs.Prelude.{ℕ, ℤ, pos, negsuc, zero, suc, ◌^◌, ◌==◌, ◌&&◌, Bool, nat_lt, if◌then◌else◌, Some, None}
use Rattle.std.specs.Prelude.{List, [], ◌∷◌}
use Rattle.std.specs.Str.{bytes_eq}
use Rattle.std.specs.Str.Parse.{digits_value}
use Rattle.sql_evaluation.specs.Cells.{integer_text}
use Rattle.sql_evaluation.specs.Running.{Cast}

abbrev pub negative : ℕ → ℤ
negative zero = pos 0
negative (suc n) = negsuc n

-- the integer that digits write, or a minus and then digits
abbrev pub integer_of_text : List ℕ → ℤ
integer_of_text [] = pos 0
integer_of_text (b ∷ bytes) = if b == 45 then negative (digits_value 10 bytes) else pos (digits_value 10 (b ∷ bytes))

-- an integer of 64 bits
abbrev pub has_64_bits : ℤ → Bool
has_64_bits (pos n) = nat_lt n (2 ^ 63)
has_64_bits (negsuc n) = nat_lt n (2 ^ 63)

-- the text of an integer of 64 bits is cast to it; any other text is an error
abbrev pub cast_of_integers : Cast
cast_of_integers t =
    if has_64_bits (integer_of_text t) && bytes_eq (integer_text (integer_of_text t)) t then Some (integer_of_text t)
    else None
