-- What the loop of `send` keeps; and by what it ends.
use Rattle.std.proofs.Common.{◌≡◌, ◌-◌, ◌≤◌, length, take}
use Rattle.std.specs.Io.KnownBytes.{append_known}
use Rattle.desk_outside.proofs.transfer.send.Given as goal

-- the sink took the bytes so far
abbrev pub invariant-loop-sent : goal.invariant-loop-sent
invariant-loop-sent g l =
    let sink = g.K.Sink in
    record {
      fine : sink.faults l.sink ≡ sink.faults l.fn.sink;
      within : l.sent ≤ length l.bytes;
      taken : sink.contents l.sink ≡ append_known (sink.contents l.fn.sink) (take l.sent l.bytes);
    }

abbrev pub decreases-loop-sent : goal.decreases-loop-sent
decreases-loop-sent g l = length l.bytes - l.sent
