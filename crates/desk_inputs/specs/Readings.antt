-- What is known of the files while a command reads them: for every command that reads one.
use Rattle.std.specs.Prelude.{⊤, ◌≡◌, ◌⊎◌, ℕ, ◌+◌, ◌≤◌, List, length, Option, Some, IfSome}
use Rattle.desk_outside.specs.Causes.{ErrorCountIncreased}
use Rattle.desk_outside.specs.Files.{Files, IsMissing, IsHeld, IsLonger}

-- what is known of the files: all of it, or what a file source made known in a call
pub data Reading : Type 0 where
  -- these are the files, and nothing fails
  known_files : Files → Reading
  -- a file source in a call: its files, where known, its faults before and after, the bytes taken
  -- since the last file was begun, and the name of that file, where known
  observed : Option Files → ℕ → ℕ → ℕ → Option (List ℕ) → Reading

-- the files, where known
abbrev pub files_in : Reading → Option Files
files_in (known_files files) = Some files
files_in (observed files before after taken last) = files

-- the error count increased
abbrev pub Fails : Reading → Type 0
Fails (known_files files) = ⊥
Fails (observed files before after taken last) = ErrorCountIncreased before after

-- one byte more than a limit was taken
abbrev pub TookMore : Reading → ℕ → Type 0
TookMore (known_files files) limit = ⊤
TookMore (observed files before after taken last) limit = taken ≡ limit + 1

-- no file but that of this name is known to be the last that was begun
abbrev pub MayBeLast : Reading → List ℕ → Type 0
MayBeLast (known_files files) name = ⊤
MayBeLast (observed files before after taken last) name = IfSome last (λ other. name ≡ other)

-- a file can't be read only where it was begun last, and the error count increased or the file source
-- lacks it
abbrev pub CannotBeRead : Reading → List ℕ → Type 0
CannotBeRead r name = (Fails r ⊎ IsMissing (files_in r) name) × MayBeLast r name

-- a file is too long only where it was begun last, and one byte more than the limit was taken
abbrev pub IsTooLong : Reading → List ℕ → ℕ → Type 0
IsTooLong r name limit = TookMore r limit × IsLonger (files_in r) name limit × MayBeLast r name

-- a file of at most so many bytes has these
abbrev pub IsContent : Reading → List ℕ → ℕ → List ℕ → Type 0
IsContent r name limit bytes = IsHeld (files_in r) name bytes × (length bytes ≤ limit)
