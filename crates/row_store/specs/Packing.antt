-- What a hasher is given of a value.
use Rattle.std.specs.Prelude.{◌+◌, ◌*◌, ◌%◌, ◌^◌, ℕ, if◌then◌else◌, List, [], ◌∷◌, length, nat_lt}
use Rattle.std.specs.Hash as fed

-- bytes put behind a number, each as a digit of base 256
unfoldable pub packed : ℕ → List ℕ → ℕ
packed sum [] = sum
packed sum (byte ∷ bytes) = packed ((sum * 256 % 2 ^ 64 + byte) % 2 ^ 64) bytes

-- the writes of a value: up to seven bytes as one number, behind how many they are
abbrev pub value_input : List ℕ → List (List ℕ)
value_input bytes = if nat_lt (length bytes) 8 then fed.u64 (packed (length bytes) bytes) else (bytes ∷ [])
