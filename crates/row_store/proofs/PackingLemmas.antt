-- Bytes that are put behind a number.
use Rattle.std.proofs.Common.{◌≡◌, ◌+◌, ◌*◌, ◌%◌, ◌^◌, ◌<◌, ◌≤◌, ℕ, suc, List, length, drop, get_or, ap, ◌∙◌, arith}
use Rattle.std.proofs.Math.Seq.{drop-cons}
use Rattle.std.proofs.lemmas.List.{drop_all}
use Rattle.row_store.specs.Packing.{packed}

pub packed_next : (sum i : ℕ) (bytes : List ℕ) → i < length bytes
    → packed sum (drop i bytes) ≡ packed ((sum * 256 % 2 ^ 64 + get_or bytes i 0) % 2 ^ 64) (drop (i + 1) bytes)
unfolding packed
packed_next sum i bytes low =
    let next : suc i ≡ i + 1 = omega arith in
    ap (packed sum) (drop-cons bytes i 0 low)
    ∙ ap (λ (k : ℕ). packed ((sum * 256 % 2 ^ 64 + get_or bytes i 0) % 2 ^ 64) (drop k bytes)) next

pub packed_end : (sum i : ℕ) (bytes : List ℕ) → length bytes ≤ i → packed sum (drop i bytes) ≡ sum
unfolding packed
packed_end sum i bytes over = ap (packed sum) (drop_all i bytes over)
