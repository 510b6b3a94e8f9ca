-- What the loop of `packed` keeps: the bytes that are left, put behind the sum, give the same.
use Rattle.std.proofs.Common.{◌≡◌, drop, length}
use Rattle.row_store.specs.Packing.{packed}
use Rattle.row_store.proofs.hashing.packed.Given as goal

abbrev pub invariant-loop-byte : goal.invariant-loop-byte
invariant-loop-byte l = record { left : packed l.sum (drop l.byte-index l.bytes) ≡ packed (length l.bytes) l.bytes }
