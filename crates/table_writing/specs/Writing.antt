-- What becomes of destinations to which tables are written: for table_writing, and for what the call ends with
-- (`desk_delivery/Outcomes`).
use Rattle.std.specs.Prelude.{◌≡◌, ℕ, ◌<◌, List, [], length, slice_index_or}
use Rattle.desk_outside.specs.Folders.{FolderState}
use Rattle.named_tables.specs.Tables.{TableValue}
use Rattle.destinations.specs.Formats.{table_files}
use Rattle.destinations.specs.Writing.{FilesWritten, WriteEnd}
use Rattle.destinations.specs.declared.destination.Destination.{Destination}

-- a destination before and after, and how the writing of the files of these tables to its folder ended
pub record WrittenDestination {G : Type 0} (state : G → FolderState) (tables : List TableValue)
    (old new : Destination G) (end : WriteEnd) : Type 0 where
  pub written : FilesWritten (table_files [] old.format tables) (state old.folder) (state new.folder) end
  pub format : new.format ≡ old.format

-- as many new values as old ones and as results, and P holds of the three at each position
pub record AtEachPosition {S T U : Type 0} (P : S → T → U → Type 0) (xs : List S) (ys : List T)
    (zs : List U) : Type 0 where
  pub news : length ys ≡ length xs
  pub results : length zs ≡ length xs
  pub each : (i : ℕ) → i < length xs → (x : S) (y : T) (z : U)
      → P (slice_index_or xs i x) (slice_index_or ys i y) (slice_index_or zs i z)
