-- What the top call promises: the record `Desk`, for `desk`.
use Rattle.std.specs.Prelude.{◌≡◌, ◌⊎◌, ℕ, ◌≤◌, Bool, true, false, if◌then◌else◌, List, [], ◌++◌, length, Option, Some, IfSome, Result, Ok, Err}
use Rattle.std.specs.Io.KnownBytes.{append_known}
use Rattle.dep_model.specs.declared.memory.OutOfMemory.{OutOfMemory}
use Rattle.desk_outside.specs.Begun.{Begun}
use Rattle.desk_outside.specs.Causes.{ErrorCountIncreased, TookPart}
use Rattle.desk_outside.specs.declared.file_source.FileSource.{Ghosts as FileSource}
use Rattle.desk_outside.specs.Files.{Files}
use Rattle.desk_outside.specs.FreeNames.{may_be_free}
use Rattle.desk_responses.specs.declared.status.Status.{Status}
use Rattle.desk_responses.specs.declared.status.Status.TheVariants.{Yes, No, Refused, CannotRead, CannotWrite, DestinationFailed}
use Rattle.desk_responses.specs.ResponseValues.{ResponseValue, Allowed}
use Rattle.desk_delivery.specs.Outcomes.{OutcomeValue, Outcomes, outcome_of_response, DestinationsInCall, FolderInCall, AllStays, ComesTo, EndsAs, LeavesPart, Leaves, NoneFails, HaveTables}
use Rattle.desk_cli.specs.FilesRead.{files_of_words}
use Rattle.desk_cli.specs.Help.{hint_of}
use Rattle.desk_cli.specs.Performs.{Answers}
use Rattle.desk_tables.specs.OwnFolders.{Looks}
use Rattle.desk_inputs.specs.FilesBegun.{BeginsFront, BeginsLast}
use Rattle.desk_inputs.specs.Readings.{Reading, observed, known_files}

-- a file source in a call: its files, where known, before and after, its faults before and after, the
-- bytes taken since the last file was begun, and the names begun, before and after
pub record FileSourceInCall : Type 1 where
  pub files : Option Files
  pub files_after : Option Files
  pub before : ℕ
  pub after : ℕ
  pub taken : ℕ
  pub begun_before : Begun
  pub begun_after : Begun

abbrev pub source_in_call : {S : Type 0} → FileSource S → S → S → FileSourceInCall
source_in_call source old new =
    record {
      files = source.files old;
      files_after = source.files new;
      before = source.faults old;
      after = source.faults new;
      taken = source.taken new;
      begun_before = source.begun old;
      begun_after = source.begun new;
    }

-- a sink in a call: the bytes taken, where known, and its faults, before and after
pub record SinkInCall : Type 0 where
  pub old : Option (List ℕ)
  pub new : Option (List ℕ)
  pub before : ℕ
  pub after : ℕ

abbrev pub sink_in_call : Option (List ℕ) → Option (List ℕ) → ℕ → ℕ → SinkInCall
sink_in_call old new before after = record { old = old; new = new; before = before; after = after }

-- no file but this is the last that was begun, where one is named
abbrev pub IsLastBegun : FileSourceInCall → Option (List ℕ) → Type 0
IsLastBegun source last =
    (name : List ℕ) → BeginsLast name source.begun_before source.begun_after → IfSome last (λ other. name ≡ other)

-- what the file source showed, where the last file that was begun is this, or none is named
abbrev pub reading_in_call : FileSourceInCall → Option (List ℕ) → Reading
reading_in_call source last = observed source.files source.before source.after source.taken last

-- yes or no
abbrev pub is_answer : Status → Bool
is_answer Yes = true
is_answer No = true
is_answer Refused = false
is_answer CannotRead = false
is_answer CannotWrite = false
is_answer DestinationFailed = false

-- what the sink of notices is to take: where an outcome is neither yes nor no, its text and a hint
abbrev pub notice_text : List ℕ → OutcomeValue → List ℕ
notice_text hint ending = if is_answer ending.status then [] else ending.text ++ hint

-- the sink of notices took just this, or a call of it failed and it took a part
abbrev pub Notes : SinkInCall → List ℕ → Type 0
Notes notices text =
    ((notices.new ≡ append_known notices.old text) × (notices.after ≡ notices.before))
    ⊎ (ErrorCountIncreased notices.before notices.after × TookPart notices.old text notices.new)

-- the sink took just the text of an outcome with this status, and none of its calls failed; the sink of notices took
-- its notice
abbrev pub WritesWhole : SinkInCall → SinkInCall → List ℕ → Outcomes → Status → Type 0
WritesWhole sink notices hint endings status =
    (ending : OutcomeValue) × endings ending × (status ≡ ending.status)
    × (sink.new ≡ append_known sink.old ending.text) × (sink.after ≡ sink.before)
    × Notes notices (notice_text hint ending)

-- writing failed: the sink's error count increased, and it took a part of the text of an outcome; the sink of notices
-- took the notice all the same
abbrev pub WritesPart : SinkInCall → SinkInCall → List ℕ → Outcomes → Status → Type 0
WritesPart sink notices hint endings status =
    (status ≡ CannotWrite) × ErrorCountIncreased sink.before sink.after
    × ((ending : OutcomeValue) × endings ending × TookPart sink.old ending.text sink.new
    × Notes notices (notice_text hint ending))

-- the sink took just the text of an answer with this status, where its tables went has all of them, and the sink of
-- notices took its notice
abbrev pub Delivers : SinkInCall → SinkInCall → List ℕ → DestinationsInCall → FolderInCall → Allowed → Status → Type 0
Delivers sink notices hint destinations own allowed status =
    (response : ResponseValue) × allowed response × (status ≡ response.status)
    × (sink.new ≡ append_known sink.old response.text) × HaveTables destinations own response
    × Notes notices (notice_text hint (outcome_of_response response))

-- no, refused, or a file that could not be read
abbrev pub IsNoOrStops : Status → Type 0
IsNoOrStops status = (status ≡ No) ⊎ ((status ≡ Refused) ⊎ (status ≡ CannotRead))

-- what becomes of an answer, with a hint: the sink took the text that it comes to, or writing failed
pub record Delivered (sink notices : SinkInCall) (hint : List ℕ) (destinations : DestinationsInCall)
    (own : FolderInCall) (response : ResponseValue) (result : Result Status OutOfMemory) : Type 0 where
  pub ends : (status : Status) → result ≡ Ok status
      → WritesWhole sink notices hint (ComesTo destinations own response) status
      ⊎ WritesPart sink notices hint (ComesTo destinations own response) status
  pub memory : (e : OutOfMemory) → result ≡ Err e
      → (sink.new ≡ sink.old) × (notices.new ≡ notices.old) × LeavesPart destinations own response
  pub count : length destinations.new ≡ length destinations.old
  pub later : sink.before ≤ sink.after
  pub notes_later : notices.before ≤ notices.after

-- how looks at names may be answered in the folder in which folders of their own are made and written
abbrev pub looks_in : FolderInCall → Looks
looks_in own = may_be_free (own.state own.old).contents

pub record Desk (words : List (List ℕ)) (source : FileSourceInCall) (sink notices : SinkInCall)
    (destinations : DestinationsInCall) (own : FolderInCall) (result : Result Status OutOfMemory) : Type 0 where
  -- the files that were begun are the first of those that the words name, in their order, each once
  pub reads : BeginsFront (files_of_words words) source.begun_before source.begun_after
  -- the call ends as an answer that the words and the files allow, and the sink took the text; no file
  -- but the last that was begun is one that cannot be read
  pub response : (last : Option (List ℕ)) → IsLastBegun source last → (status : Status) → result ≡ Ok status
      → WritesWhole sink notices (hint_of words)
      (EndsAs destinations own (Answers (looks_in own) (reading_in_call source last) words)) status
      ⊎ WritesPart sink notices (hint_of words)
      (EndsAs destinations own (Answers (looks_in own) (reading_in_call source last) words)) status
  -- where the files are known and nothing failed, it is the answer of those files, whole, with all
  -- tables
  pub complete : (files : Files) → source.files ≡ Some files → (ErrorCountIncreased source.before source.after → ⊥)
      → (ErrorCountIncreased sink.before sink.after → ⊥) → NoneFails destinations own
      → (status : Status) → result ≡ Ok status
      → Delivers sink notices (hint_of words) destinations own (Answers (looks_in own) (known_files files) words) status
  -- only the answer yes gives tables
  pub stay : (status : Status) → result ≡ Ok status → IsNoOrStops status
      → AllStays destinations own
  -- where memory ran out nothing was written, and all is as it was, or where the tables of an answer went has a
  -- part of them, since that ran out of memory
  pub memory : (last : Option (List ℕ)) → IsLastBegun source last → (e : OutOfMemory) → result ≡ Err e
      → (sink.new ≡ sink.old) × (notices.new ≡ notices.old)
      × Leaves destinations own (Answers (looks_in own) (reading_in_call source last) words)
  pub destinations_stay : length destinations.new ≡ length destinations.old
  pub files_stay : source.files_after ≡ source.files
  pub reads_later : source.before ≤ source.after
  pub writes_later : sink.before ≤ sink.after
  pub notes_later : notices.before ≤ notices.after
