-- What the loop of `are_any_bytes` keeps: whether one of the values so far can be no text.
use Rattle.std.proofs.Common.{◌≡◌, take}
use Rattle.std.specs.List.{list_any}
use Rattle.own_folder.specs.OwnFiles.{is_bytes}
use Rattle.own_folder.proofs.bytes.are_any_bytes.Given as goal

abbrev pub invariant-loop-i : goal.invariant-loop-i
invariant-loop-i l = l.any ≡ list_any is_bytes (take l.i l.values)
