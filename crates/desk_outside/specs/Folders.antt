-- What a folder is in, what it holds, and what its calls make of that: for folders and for what is written through
-- them. `Desk` cites `FolderState`.
use Rattle.std.specs.Prelude.{◌≡◌, ◌⊎◌, ℕ, Bool, List, [], ◌∷◌, ◌++◌, codes, Option, Some, None, option_map, option_to_list, Result, OnOk, OnErr}
use Rattle.desk_outside.specs.Files.{Files, StoredFile, without_file}

-- the finished files in the order of their ending, and the open one
pub record FolderContents : Type 0 where
  pub finished : Files
  pub opened : Option StoredFile

-- what a folder is in: what it holds, where known; whether a file is open; the names begun, in order, of files and of
-- folders, by their paths; and its error count, which never falls
pub record FolderState : Type 0 where
  pub contents : Option FolderContents
  pub is_open : Bool
  pub begun : List (List ℕ)
  pub faults : ℕ

-- the finished files, where known, whatever is open
abbrev pub finished_in : Option FolderContents → Option Files
finished_in known = option_map (λ folder. folder.finished) known

-- the path of a folder of this name: what that of each file in it begins with
abbrev pub folder_path : List ℕ → List ℕ
folder_path name = name ++ codes "/"

-- an empty file of this name is open, in place of a finished one
abbrev pub with_begun : List ℕ → FolderContents → FolderContents
with_begun name folder =
    record { finished = without_file name folder.finished; opened = Some (record { name = name; bytes = [] }) }

-- the file has these bytes more
abbrev pub more_bytes : List ℕ → StoredFile → StoredFile
more_bytes bytes file = record { name = file.name; bytes = file.bytes ++ bytes }

-- the open file has these bytes more
abbrev pub with_bytes : List ℕ → FolderContents → FolderContents
with_bytes bytes folder =
    record { finished = folder.finished; opened = option_map (more_bytes bytes) folder.opened }

-- the open file is the last finished one
abbrev pub with_ended : FolderContents → FolderContents
with_ended folder = record { finished = folder.finished ++ option_to_list folder.opened; opened = None }

-- no file is open
abbrev pub with_none_open : FolderContents → FolderContents
with_none_open folder = record { finished = folder.finished; opened = None }

-- The names begun before and after a call that begins one: at Ok it is the last of them, and after an
-- error it may be.
pub record BeginsName {T E : Type 0} (name : List ℕ) (old new : List (List ℕ)) (result : Result T E) : Type 0 where
  pub ok : OnOk result (new ≡ old ++ name ∷ [])
  pub err : OnErr result ((new ≡ old) ⊎ (new ≡ old ++ name ∷ []))
