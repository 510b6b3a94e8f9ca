-- The objects in memory, as contracts see them: for those that tests use. `Desk` does not cite it.
use Rattle.std.specs.Prelude.{ℕ, ◌-◌, ◌<◌, ◌≤◌, List, [], length, Option, Some, None, is_some, slice_get}
use Rattle.std.specs.Option.{option_map_or}
use Rattle.desk_outside.specs.declared.held_file.HeldFile.{HeldFile}
use Rattle.desk_outside.specs.Files.{Files, StoredFile}
use Rattle.desk_outside.specs.Folders.{FolderState}
use Rattle.desk_outside.specs.Planned.{FaultPlan, new_plan}

-- a file source: its files, what is left of the begun one, how many bytes were taken since it was
-- begun, how many bytes one read gives at most, and its planned faults
pub record FileSourceInMemory : Type 0 where
  pub files : Files
  pub left : List ℕ
  pub taken : ℕ
  pub step : ℕ
  pub planned : FaultPlan

-- nothing is begun or taken, and no call was made
abbrev pub new_source : Files → List ℕ → ℕ → FileSourceInMemory
new_source files fails step =
    record { files = files; left = []; taken = 0; step = step; planned = new_plan fails }

-- a sink: the bytes taken, how many it has room for in all, how many one write takes at most, and
-- its planned faults
pub record SinkInMemory : Type 0 where
  pub contents : List ℕ
  pub capacity : ℕ
  pub step : ℕ
  pub planned : FaultPlan

-- nothing is taken, and no call was made
abbrev pub new_sink : ℕ → List ℕ → ℕ → SinkInMemory
new_sink capacity fails step =
    record { contents = []; capacity = capacity; step = step; planned = new_plan fails }

-- how many bytes a sink has room for
abbrev pub room : SinkInMemory → ℕ
room sink = sink.capacity - length sink.contents

-- the bytes of the file at this position, where there is one
abbrev pub bytes_at : List HeldFile → Option ℕ → List ℕ
bytes_at files None = []
bytes_at files (Some position) = option_map_or (λ (file : HeldFile). file.bytes.items) (slice_get files position) []

-- a begun file is one of the files, and no more of it was taken than it has
abbrev pub IsBegun : List HeldFile → Option ℕ → ℕ → Type 0
IsBegun files None taken = Unit {0}
IsBegun files (Some position) taken = (position < length files) × (taken ≤ length (bytes_at files (Some position)))

-- a folder: its finished files in the order of their ending, the open one, the names begun, and its
-- planned faults
pub record FolderInMemory : Type 0 where
  pub finished : Files
  pub opened : Option StoredFile
  pub begun : List (List ℕ)
  pub planned : FaultPlan

-- these files are finished, none is open or begun, and no call was made
abbrev pub new_folder : Files → List ℕ → FolderInMemory
new_folder files fails = record { finished = files; opened = None; begun = []; planned = new_plan fails }

-- what it is in
abbrev pub state_of : FolderInMemory → FolderState
state_of folder =
    record {
      contents = Some (record { finished = folder.finished; opened = folder.opened });
      is_open = is_some folder.opened;
      begun = folder.begun;
      faults = folder.planned.faults;
    }
