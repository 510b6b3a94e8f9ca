-- A kind of file, and how files of it are read: for every command that reads one.
use Rattle.std.specs.Prelude.{◌≡◌, ◌⊎◌, ℕ, List, take, slice_get, Some}
use Rattle.std.specs.List.{AllZip}
use Rattle.desk_responses.specs.declared.status.Status.TheVariants.{Refused, CannotRead}
use Rattle.desk_responses.specs.ResponseValues.{Allowed, Says, With}
use Rattle.desk_inputs.specs.Readings.{Reading, CannotBeRead, IsTooLong, IsContent}
use Rattle.desk_texts.specs.Texts.{cannot_read_text, too_long_text}

-- how many bytes such a file has at most, which value a text means, with which refusal it is refused, and
-- what is said of a file that is refused so
pub record FileKind (Value Refusal : Type 0) : Type 1 where
  pub limit : ℕ
  pub means : List ℕ → Value → Type 0
  pub refuses : List ℕ → Refusal → Type 0
  pub refusal_text : List ℕ → Refusal → List ℕ

-- the text of a file means this value
pub record IsFile {Value Refusal : Type 0} (kind : FileKind Value Refusal) (r : Reading) (name : List ℕ)
    (value : Value) : Type 0 where
  pub bytes : List ℕ
  pub content : IsContent r name kind.limit bytes
  pub means : kind.means bytes value

-- the text of a file is refused so
pub record IsRefusedFile {Value Refusal : Type 0} (kind : FileKind Value Refusal) (r : Reading) (name : List ℕ)
    (refusal : Refusal) : Type 0 where
  pub bytes : List ℕ
  pub content : IsContent r name kind.limit bytes
  pub refused : kind.refuses bytes refusal

-- a file of at most so many bytes cannot be read or is too long, and so ends a command
abbrev pub LoadStops : Reading → List ℕ → ℕ → Allowed
LoadStops r name limit response =
    (CannotBeRead r name × Says CannotRead (cannot_read_text name) response)
    ⊎ (IsTooLong r name limit × Says Refused (too_long_text name) response)

-- how the reading of a file ends a command
abbrev pub FileStops : {Value Refusal : Type 0} → FileKind Value Refusal → Reading → List ℕ → Allowed
FileStops {Value} {Refusal} kind r name response =
    LoadStops r name kind.limit response
    ⊎ ((refusal : Refusal) × IsRefusedFile kind r name refusal
    × Says Refused (kind.refusal_text name refusal) response)

-- a file is read, and then the rest follows
abbrev pub WithFile : {Value Refusal : Type 0} → FileKind Value Refusal → Reading → List ℕ → (Value → Allowed) → Allowed
WithFile kind r name = With (FileStops kind r name) (IsFile kind r name)

-- ---- several files of a kind, read one after the other
-- their texts mean these values
abbrev pub AreFiles : {Value Refusal : Type 0} → FileKind Value Refusal → Reading → List (List ℕ) → List Value → Type 0
AreFiles kind r names values = AllZip (IsFile kind r) names values

-- the files before one were read, and its reading ends the command
pub record FirstStops {Value Refusal : Type 0} (kind : FileKind Value Refusal) (r : Reading) (names : List (List ℕ))
    : Type 0 where
  pub position : ℕ
  pub name : List ℕ
  pub stands : slice_get names position ≡ Some name
  pub earlier : List Value
  pub before : AreFiles kind r (take position names) earlier

-- how the reading of files ends a command: at the first that cannot be read
abbrev pub FilesStop : {Value Refusal : Type 0} → FileKind Value Refusal → Reading → List (List ℕ) → Allowed
FilesStop kind r names response = (first : FirstStops kind r names) × FileStops kind r first.name response

-- files are read, and then the rest follows
abbrev pub WithFiles : {Value Refusal : Type 0} → FileKind Value Refusal → Reading → List (List ℕ)
    → (List Value → Allowed) → Allowed
WithFiles kind r names = With (FilesStop kind r names) (AreFiles kind r names)
