-- What the loop of `mixed` keeps: the bytes that are left, mixed into the sum, give the same.
use Rattle.std.proofs.Common.{◌≡◌, drop}
use Rattle.row_groups.specs.Buckets.{mixed}
use Rattle.row_groups.proofs.buckets.mixed.Given as goal

abbrev pub invariant-loop-byte : goal.invariant-loop-byte
invariant-loop-byte l = record { left : mixed l.sum (drop l.byte-index l.bytes) ≡ mixed 0 l.bytes }
