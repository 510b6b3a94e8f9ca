-- A folder of which bytes for the open file are gathered: for `BufferedFolder`.
use Rattle.std.specs.Prelude.{ℕ, List, option_map}
use Rattle.desk_outside.specs.Folders.{FolderState, with_bytes}

-- what it will be in once these bytes are written out
abbrev pub gathered : List ℕ → FolderState → FolderState
gathered bytes folder = record {
  contents = option_map (with_bytes bytes) folder.contents;
  is_open = folder.is_open;
  begun = folder.begun;
  faults = folder.faults;
}
