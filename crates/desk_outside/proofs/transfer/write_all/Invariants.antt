-- What the loop of `write_all` keeps, in terms of `with_bytes`; and by what it ends.
use Rattle.std.proofs.Common.{◌≡◌, ◌-◌, ◌≤◌, IsTrue, length, take, option_map}
use Rattle.desk_outside.specs.Folders.{with_bytes}
use Rattle.desk_outside.proofs.transfer.write_all.Given as goal

-- the open file has the bytes so far
abbrev pub invariant-loop-written : goal.invariant-loop-written
invariant-loop-written g l =
    let folder = g.G.Folder in
    record {
      is_open : IsTrue (folder.state l.folder).is_open;
      same : (folder.state l.folder).begun ≡ (folder.state l.fn.folder).begun;
      fine : (folder.state l.folder).faults ≡ (folder.state l.fn.folder).faults;
      within : l.written ≤ length l.bytes;
      taken : (folder.state l.folder).contents ≡ option_map (with_bytes (take l.written l.bytes)) (folder.state l.fn.folder).contents;
    }

abbrev pub decreases-loop-written : goal.decreases-loop-written
decreases-loop-written g l = length l.bytes - l.written
