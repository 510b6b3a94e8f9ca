-- What the loop of `load` keeps, in terms of `all_left`; and by what it ends.
use Rattle.std.proofs.Common.{◌≡◌, ◌+◌, ◌-◌, ◌≤◌, length}
use Rattle.std.specs.Io.KnownBytes.{prepend_known}
use Rattle.desk_outside.specs.Begun.{Begins}
use Rattle.desk_outside.specs.Files.{all_left}
use Rattle.desk_outside.proofs.transfer.load.Given as goal

-- the bytes so far and what is left make up the file
abbrev pub invariant-loop-bytes : goal.invariant-loop-bytes
invariant-loop-bytes g l =
    let source = g.F.FileSource in
    record {
      files : source.files l.source ≡ source.files l.fn.source;
      fine : source.faults l.source ≡ source.faults l.fn.source;
      begins : Begins l.name (source.begun l.fn.source) (source.begun l.source);
      within : length l.bytes.items ≤ l.limit;
      taken : source.taken l.source ≡ length l.bytes.items;
      left : all_left (source.files l.fn.source) l.name ≡ prepend_known l.bytes.items (source.left l.source);
    }

abbrev pub decreases-loop-bytes : goal.decreases-loop-bytes
decreases-loop-bytes g l = l.limit + 1 - length l.bytes.items
