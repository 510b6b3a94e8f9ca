-- What the writing of files through a folder leaves, where it stopped, and what each error is: for all that writes
-- tables to a destination, or to a folder of their own. `Desk` cites `AllWritten` and `FilesWritten`.
use Rattle.std.specs.Prelude.{◌≡◌, ◌⊎◌, List, [], ◌∷◌, ◌++◌, ℕ, false, map, option_map, IsTrue, Result, OnOk, OnErr}
use Rattle.desk_outside.specs.Causes.{HasOutsideCause}
use Rattle.desk_outside.specs.declared.failure.OutsideFault.{OutsideFault}
use Rattle.desk_outside.specs.Files.{Files, StoredFile, without_file}
use Rattle.desk_outside.specs.Folders.{BeginsName, FolderState, finished_in, with_bytes}

-- how writing ended: whole, or with an error
abbrev pub WriteEnd : Type 0
WriteEnd = Result (Unit {0}) OutsideFault

-- one file more, in place of one of its name
abbrev pub with_stored : StoredFile → Files → Files
with_stored file files = without_file file.name files ++ file ∷ []

-- the files, and then others one after the other, each in place of one of its name
abbrev pub with_all_stored : List StoredFile → Files → Files
with_all_stored [] files = files
with_all_stored (file ∷ more) files = with_all_stored more (with_stored file files)

abbrev pub names_of_files : List StoredFile → List (List ℕ)
names_of_files files = map (λ file. file.name) files

-- bytes are written at the end of the open file; at an error the finished files are as before
pub record AddsBytes (bytes : List ℕ) (old new : FolderState) (end : WriteEnd) : Type 0 where
  pub ok : OnOk end (new.contents ≡ option_map (with_bytes bytes) old.contents)
  pub is_open : OnOk end (IsTrue new.is_open)
  pub kept : OnErr end (finished_in new.contents ≡ finished_in old.contents)
  pub same : new.begun ≡ old.begun
  pub cause : HasOutsideCause old.faults new.faults end

-- one file is written: at an error it is not there, and an older one of its name may be gone
pub record WritesFile (file : StoredFile) (old new : FolderState) (end : WriteEnd) : Type 0 where
  pub ok : OnOk end (finished_in new.contents ≡ option_map (with_stored file) (finished_in old.contents))
  pub err : OnErr end
      ((finished_in new.contents ≡ finished_in old.contents)
      ⊎ (finished_in new.contents ≡ option_map (without_file file.name) (finished_in old.contents)))
  pub begins : BeginsName file.name old.begun new.begun end
  -- no file is open, where none was
  pub closed : old.is_open ≡ false → new.is_open ≡ false
  pub cause : HasOutsideCause old.faults new.faults end

-- all of these are written, each begun once
pub record AllWritten (files : List StoredFile) (old new : FolderState) : Type 0 where
  pub finished : finished_in new.contents ≡ option_map (with_all_stored files) (finished_in old.contents)
  pub begun : new.begun ≡ old.begun ++ names_of_files files
  -- no file is open, where none was
  pub closed : old.is_open ≡ false → new.is_open ≡ false

-- the writing stopped at a file: all before it are written, and it is not
pub record StoppedAtFile (files : List StoredFile) (old new : FolderState) : Type 0 where
  pub front : List StoredFile
  pub file : StoredFile
  pub rest : List StoredFile
  pub split : files ≡ front ++ file ∷ rest
  -- an older file of its name may be gone
  pub finished : (finished_in new.contents ≡ option_map (with_all_stored front) (finished_in old.contents))
      ⊎ (finished_in new.contents
      ≡ option_map (without_file file.name) (option_map (with_all_stored front) (finished_in old.contents)))
  -- its name may be the last one begun
  pub begun : (new.begun ≡ old.begun ++ names_of_files front)
      ⊎ (new.begun ≡ (old.begun ++ names_of_files front) ++ file.name ∷ [])
  pub closed : old.is_open ≡ false → new.is_open ≡ false

-- files are written one after the other, up to the first error: where all are written no call failed, `Failed` is
-- answered where one did, and running out of memory is always allowed
pub record FilesWritten (files : List StoredFile) (old new : FolderState) (end : WriteEnd) : Type 0 where
  pub ok : OnOk end (AllWritten files old new)
  pub err : OnErr end (StoppedAtFile files old new)
  pub cause : HasOutsideCause old.faults new.faults end
