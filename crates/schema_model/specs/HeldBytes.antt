-- Bytes in an array of fixed length: for the type `HeldBytes`, in which names and types are held.
use Rattle.std.specs.Prelude.{◌≡◌, ℕ, ◌-◌, ◌≤◌, List, ◌++◌, length, take, drop, replicate}
use Rattle.std.proofs.Common.{sym, subst, ap, ◌∙◌}
use Rattle.std.proofs.lemmas.List.{length-take-le, take-append-drop}
use Rattle.schema_model.specs.declared.held_bytes.TheConstants.{MOST_HELD_BYTES}

-- bytes of this length at the front of an array of `MOST_HELD_BYTES` bytes, whose other bytes are zero
pub record AreHeldBytes (bytes : List ℕ) (len : ℕ) : Type 0 where
  pub whole : length bytes ≡ MOST_HELD_BYTES
  pub within : len ≤ MOST_HELD_BYTES
  pub rest : drop len bytes ≡ replicate (MOST_HELD_BYTES - len) 0

-- the front has its length
pub front_length : (bytes : List ℕ) (len : ℕ) → AreHeldBytes bytes len → length (take len bytes) ≡ len
front_length bytes len held =
    length-take-le len bytes (subst (λ (n : ℕ). len ≤ n) (sym held.whole) held.within)

-- the front and zeros are the whole array
pub padded_is : (bytes : List ℕ) (len : ℕ) → AreHeldBytes bytes len
    → take len bytes ++ replicate (MOST_HELD_BYTES - length (take len bytes)) 0 ≡ bytes
padded_is bytes len held =
    ap (λ (n : ℕ). take len bytes ++ replicate (MOST_HELD_BYTES - n) 0) (front_length bytes len held)
    ∙ ap (λ (zeros : List ℕ). take len bytes ++ zeros) (sym held.rest)
    ∙ take-append-drop len bytes
