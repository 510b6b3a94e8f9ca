-- What making a folder of its own and writing files to it leaves: for own_folder, and for what the whole call ends
-- with.
use Rattle.std.specs.Prelude.{◌≡◌, ◌⊎◌, ℕ, List, [], ◌∷◌, Result, Ok, Err}
use Rattle.desk_outside.specs.Causes.{HasOutsideCause}
use Rattle.desk_outside.specs.declared.failure.OutsideFault.{OutsideFault}
use Rattle.desk_outside.specs.Folders.{BeginsName, FolderState, folder_path}
use Rattle.named_tables.specs.Tables.{TableValue}
use Rattle.destinations.specs.Formats.{table_files}
use Rattle.destinations.specs.Writing.{AllWritten, FilesWritten, WriteEnd, WritesFile}
use Rattle.destinations.specs.declared.format.TableFormat.TheVariants.{Csv}
use Rattle.own_folder.specs.OwnFiles.{load_file, own_files}

-- a folder of this name is made, and no file changes
pub record MakesFolder {T : Type 0} (name : List ℕ) (old new : FolderState) (end : Result T OutsideFault) : Type 0 where
  pub kept : new.contents ≡ old.contents
  pub is_open : new.is_open ≡ old.is_open
  pub begins : BeginsName (folder_path name) old.begun new.begun end
  pub cause : HasOutsideCause old.faults new.faults end

-- the CSV files are written in the folder of this path, and then the script, whatever became of them
pub record FilesOfOwn (path script : List ℕ) (tables : List TableValue) (old new : FolderState)
    (csv load : WriteEnd) : Type 0 where
  pub middle : FolderState
  pub of_csv : FilesWritten (table_files path Csv tables) old middle csv
  pub of_load : WritesFile (load_file path script tables) middle new load

-- the folder could not be made: no file is begun, and both end with that error
pub record NotMade (name : List ℕ) (old new : FolderState) (csv load : WriteEnd) : Type 0 where
  pub fault : OutsideFault
  pub fails : MakesFolder {T = Unit {0}} name old new (Err fault)
  pub csv_fails : csv ≡ Err fault
  pub load_fails : load ≡ Err fault

-- the folder is made, and then the files are written
pub record WrittenInOwn (name script : List ℕ) (tables : List TableValue) (old new : FolderState)
    (csv load : WriteEnd) : Type 0 where
  pub made : FolderState
  pub makes : MakesFolder {T = Unit {0}} name old made (Ok tt)
  pub files : FilesOfOwn (folder_path name) script tables made new csv load

-- the tables of a migration are written to a folder of their own, and so the CSV files and the script ended
abbrev pub WrittenToFolder : List ℕ → List ℕ → List TableValue → FolderState → FolderState → List WriteEnd → Type 0
WrittenToFolder name script tables old new ends =
    (csv : WriteEnd) × (load : WriteEnd) × (ends ≡ csv ∷ load ∷ [])
    × (NotMade name old new csv load ⊎ WrittenInOwn name script tables old new csv load)

-- the folder is made, and then all files of a migration are written
pub record FolderHas (name script : List ℕ) (tables : List TableValue) (old new : FolderState) : Type 0 where
  pub made : FolderState
  pub makes : MakesFolder {T = Unit {0}} name old made (Ok tt)
  pub files : AllWritten (own_files (folder_path name) script tables) made new
