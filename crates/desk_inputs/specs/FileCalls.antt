-- What a call does that reads files: for every function that reads one. `Desk` does not cite it.
use Rattle.std.specs.Prelude.{◌≡◌, ℕ, ◌+◌, ◌≤◌, List, [], ◌∷◌, Result, OnOk, IfOk, IfErr}
use Rattle.desk_outside.specs.Causes.{ErrorCountIncreased}
use Rattle.desk_outside.specs.declared.file_source.FileSource.{Ghosts as FileSource}
use Rattle.desk_responses.specs.declared.response.EarlyExit.{EarlyExit}
use Rattle.desk_responses.specs.ResponseValues.{Allowed}
use Rattle.desk_responses.specs.Responses.{ExitsAs}
use Rattle.desk_inputs.specs.FileKinds.{FileKind, AreFiles, FileStops, FilesStop, IsFile, LoadStops}
use Rattle.desk_inputs.specs.FilesBegun.{BeginsAll, BeginsFront, BeginsLast}
use Rattle.desk_inputs.specs.Readings.{Reading, Fails, IsContent, MayBeLast, TookMore, files_in}

-- a reading allows for what a file source did from one state to a later one: it has the same files,
-- fails where the source failed, took a byte too many where the source did, and takes for the last file
-- one that the source may have begun last
pub record Shows {S : Type 0} (source : FileSource S) (old new : S) (r : Reading) : Type 0 where
  pub same : files_in r ≡ source.files old
  pub fails : ErrorCountIncreased (source.faults old) (source.faults new) → Fails r
  pub takes : (limit : ℕ) → source.taken new ≡ limit + 1 → TookMore r limit
  pub last : (name : List ℕ) → BeginsLast name (source.begun old) (source.begun new) → MayBeLast r name

-- a call reads files: the file source has the same files after it, and its error count is no lower; the files that
-- were begun are the first of these names, in their order; and this holds under every reading that the source shows
pub record Reads {S : Type 0} (source : FileSource S) (old new : S) (names : List (List ℕ))
    (Holds : Reading → Type 0) : Type 0 where
  pub files : source.files new ≡ source.files old
  pub later : source.faults old ≤ source.faults new
  pub begins : BeginsFront names (source.begun old) (source.begun new)
  pub ends : (r : Reading) → Shows source old new r → Holds r

-- a call opens files: where it gives a value, all of them were begun, and seen so the value is what they mean;
-- otherwise their reading ends the command
pub record Opens {S V W : Type 0} (source : FileSource S) (old new : S) (names : List (List ℕ))
    (Means : Reading → W → Type 0) (Stops : Reading → Allowed) (view : V → W)
    (result : Result V EarlyExit) : Type 0 where
  pub reads : Reads source old new names (λ r. IfErr result (ExitsAs (Stops r)))
  pub begins : OnOk result (BeginsAll names (source.begun old) (source.begun new))
  pub ok : (r : Reading) → files_in r ≡ source.files old → IfOk result (λ value. Means r (view value))

-- a call loads the bytes of a file, of which there are at most so many
abbrev pub LoadsFile : {S V : Type 0} → FileSource S → S → S → ℕ → List ℕ → (V → List ℕ) → Result V EarlyExit → Type 0
LoadsFile source old new limit name view result =
    Opens source old new (name ∷ []) (λ r bytes. IsContent r name limit bytes) (λ r. LoadStops r name limit) view result

-- a call opens a file of a kind
abbrev pub OpensFile : {S V Value Refusal : Type 0} → FileSource S → S → S → FileKind Value Refusal → List ℕ
    → (V → Value) → Result V EarlyExit → Type 0
OpensFile source old new kind name view result =
    Opens source old new (name ∷ []) (λ r value. IsFile kind r name value) (λ r. FileStops kind r name) view result

-- a call opens files of a kind
abbrev pub OpensFiles : {S V Value Refusal : Type 0} → FileSource S → S → S → FileKind Value Refusal → List (List ℕ)
    → (V → List Value) → Result V EarlyExit → Type 0
OpensFiles source old new kind names view result =
    Opens source old new names (λ r values. AreFiles kind r names values) (λ r. FilesStop kind r names) view result
