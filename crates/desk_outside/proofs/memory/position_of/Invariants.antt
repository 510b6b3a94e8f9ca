-- What the loop of `position_of` keeps, in terms of `bytes_of_file` and `files_of`.
use Rattle.std.proofs.Common.{◌≡◌, drop}
use Rattle.desk_outside.specs.Files.{bytes_of_file, files_of}
use Rattle.desk_outside.proofs.memory.position_of.Given as goal

-- the files before this one have other names
abbrev pub invariant-loop-position : goal.invariant-loop-position
invariant-loop-position l = bytes_of_file (files_of l.files) l.name ≡ bytes_of_file (files_of (drop l.position l.files)) l.name
