-- Files as names with bytes: for what a command reads (`desk_inputs/Readings`), and for the files that
-- a folder keeps.
use Rattle.std.specs.Prelude.{◌≡◌, ℕ, ◌<◌, not, if◌then◌else◌, List, [], ◌∷◌, length, map, filter, Option, Some, None, unwrap_or, IfSome, IsSomeAnd}
use Rattle.std.specs.Option.{option_map}
use Rattle.std.specs.Str.{bytes_eq}
use Rattle.desk_outside.specs.declared.held_file.HeldFile.{HeldFile}

-- a name with bytes
pub record StoredFile : Type 0 where
  pub name : List ℕ
  pub bytes : List ℕ

-- files; the first of a name counts
abbrev pub Files : Type 0
Files = List StoredFile

-- the bytes of the file of this name
abbrev pub bytes_of_file : Files → List ℕ → Option (List ℕ)
bytes_of_file [] name = None
bytes_of_file (file ∷ files) name = if bytes_eq file.name name then Some file.bytes else bytes_of_file files name

-- the files of other names
abbrev pub without_file : List ℕ → Files → Files
without_file name files = filter (λ file. not (bytes_eq file.name name)) files

-- the files are known, and none has this name
abbrev pub IsMissing : Option Files → List ℕ → Type 0
IsMissing files name = IsSomeAnd files (λ fs. bytes_of_file fs name ≡ None)

-- the file of this name has these bytes, where the files are known
abbrev pub IsHeld : Option Files → List ℕ → List ℕ → Type 0
IsHeld files name bytes = IfSome files (λ fs. bytes_of_file fs name ≡ Some bytes)

-- there is a file of this name, and it has more bytes than the limit, where the files are known
abbrev pub IsLonger : Option Files → List ℕ → ℕ → Type 0
IsLonger files name limit = IfSome files (λ fs. IsSomeAnd (bytes_of_file fs name) (λ bytes. limit < length bytes))

-- what is left of the file of this name when it is begun, where known
abbrev pub all_left : Option Files → List ℕ → Option (List ℕ)
all_left files name = option_map (λ fs. unwrap_or (bytes_of_file fs name) []) files

-- nothing is left, where known
abbrev pub none_left : Option Files → Option (List ℕ)
none_left files = option_map (λ _. []) files

-- a file that is held in memory, as its name with its bytes
abbrev pub stored_file : HeldFile → StoredFile
stored_file file = record { name = file.name; bytes = file.bytes.items }

-- files that are held in memory
abbrev pub files_of : List HeldFile → Files
files_of files = map stored_file files
