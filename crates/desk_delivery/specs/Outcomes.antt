-- What the whole call ends with, once the tables of an answer are written to the destinations, or to a folder of their
-- own: for `desk`, by `Desk`.
use Rattle.std.specs.Prelude.{◌≡◌, ◌⊎◌, ℕ, ◌+◌, ◌<◌, Bool, true, false, if◌then◌else◌, is_ok, List, [], ◌∷◌, ◌++◌, length, codes, Option, None, Some, Ok, Err, MatchOption, slice_index_or}
use Rattle.std.specs.Fmt.{decimal}
use Rattle.std.specs.List.{list_all, list_any}
use Rattle.desk_outside.specs.Causes.{ErrorCountIncreased}
use Rattle.desk_outside.specs.declared.failure.OutsideFault.TheVariants.{Failed, OutOfMemory}
use Rattle.desk_outside.specs.Folders.{FolderState}
use Rattle.named_tables.specs.Tables.{TableValue}
use Rattle.destinations.specs.Formats.{table_files}
use Rattle.destinations.specs.Writing.{AllWritten, WriteEnd}
use Rattle.destinations.specs.declared.destination.Destination.{Destination}
use Rattle.table_writing.specs.Writing.{AtEachPosition, WrittenDestination}
use Rattle.desk_responses.specs.declared.status.Status.{Status}
use Rattle.desk_responses.specs.declared.status.Status.TheVariants.{Yes, DestinationFailed}
use Rattle.desk_delivery.specs.declared.finish.Outcome.{Outcome}
use Rattle.desk_responses.specs.ResponseValues.{OwnFolder, ResponseValue, Allowed}
use Rattle.own_folder.specs.OwnWriting.{FolderHas, WrittenToFolder}
use Rattle.desk_texts.specs.Texts.{line}

-- a status and the text that is written
pub record OutcomeValue : Type 0 where
  pub status : Status
  pub text : List ℕ

-- which outcomes there may be
abbrev pub Outcomes : Type 1
Outcomes = OutcomeValue → Type 0

-- destinations in a call: what their folders are in, and the destinations before and after
pub record DestinationsInCall : Type 1 where
  pub G : Type 0
  pub state : G → FolderState
  pub old : List (Destination G)
  pub new : List (Destination G)

abbrev pub destinations_in_call : {G : Type 0} → (G → FolderState) → List (Destination G) → List (Destination G)
    → DestinationsInCall
destinations_in_call {G} state old new = record { G = G; state = state; old = old; new = new }

-- the folder in a call in which folders of their own are looked for, made and written
pub record FolderInCall : Type 1 where
  pub G : Type 0
  pub state : G → FolderState
  pub old : G
  pub new : G

abbrev pub folder_in_call : {G : Type 0} → (G → FolderState) → G → G → FolderInCall
folder_in_call {G} state old new = record { G = G; state = state; old = old; new = new }

-- nothing that is written to is changed
abbrev pub AllStays : DestinationsInCall → FolderInCall → Type 0
AllStays destinations own = (destinations.new ≡ destinations.old) × (own.new ≡ own.old)

-- these tables were written to the destinations, or to a folder of their own, and so it ended: at each destination, or
-- of the CSV files and of the script
abbrev pub Written : DestinationsInCall → FolderInCall → Option OwnFolder → List TableValue → List WriteEnd → Type 0
Written destinations own None tables ends =
    (own.new ≡ own.old)
    × AtEachPosition (WrittenDestination destinations.state tables) destinations.old destinations.new ends
Written destinations own (Some folder) tables ends =
    (destinations.new ≡ destinations.old)
    × WrittenToFolder folder.name folder.script tables (own.state own.old) (own.state own.new) ends

abbrev pub is_out_of_memory : WriteEnd → Bool
is_out_of_memory (Ok _) = false
is_out_of_memory (Err Failed) = false
is_out_of_memory (Err OutOfMemory) = true

-- what is said of the destination of this number, which ended so
abbrev pub end_text : ℕ → WriteEnd → List ℕ
end_text number (Ok _) = []
end_text number (Err Failed) = line (codes "target " ++ decimal number ++ codes " failed")
end_text number (Err OutOfMemory) = []

-- a line for each destination that failed; the first of these ends is that of the destination of this
-- number
abbrev pub failures_text : ℕ → List WriteEnd → List ℕ
failures_text number [] = []
failures_text number (end ∷ ends) = end_text number end ++ failures_text (number + 1) ends

-- a response, as an outcome
abbrev pub outcome_of_response : ResponseValue → OutcomeValue
outcome_of_response response = record { status = response.status; text = response.text }

-- yes with a text
abbrev pub yes_outcome : List ℕ → OutcomeValue
yes_outcome text = record { status = Yes; text = text }

-- What is answered after destinations ended so, none out of memory: the answer, where all are done, and
-- else those that failed
abbrev pub reported_outcome : ResponseValue → List WriteEnd → OutcomeValue
reported_outcome response ends = if list_all is_ok ends then outcome_of_response response
    else record { status = DestinationFailed; text = failures_text 1 ends }

-- the answer yes gave tables to write, and nothing ran out of memory
pub record WritesTables (destinations : DestinationsInCall) (own : FolderInCall) (response : ResponseValue)
    (ending : OutcomeValue) (tables : List TableValue) : Type 0 where
  pub yes : response.status ≡ Yes
  pub ends : List WriteEnd
  pub written : Written destinations own response.own tables ends
  pub memory : list_any is_out_of_memory ends ≡ false
  pub reports : ending ≡ reported_outcome response ends

-- what an answer comes to: without tables all is as it was
abbrev pub ComesTo : DestinationsInCall → FolderInCall → ResponseValue → OutcomeValue → Type 0
ComesTo destinations own response ending =
    MatchOption response.tables (AllStays destinations own × (ending ≡ outcome_of_response response))
    (WritesTables destinations own response ending)

-- the outcomes of allowed responses
abbrev pub EndsAs : DestinationsInCall → FolderInCall → Allowed → Outcomes
EndsAs destinations own allowed ending =
    (response : ResponseValue) × allowed response × ComesTo destinations own response ending

-- the tables of an answer were written, and something ran out of memory
pub record LeavesTables (destinations : DestinationsInCall) (own : FolderInCall) (response : ResponseValue)
    : Type 0 where
  pub tables : List TableValue
  pub given : response.tables ≡ Some tables
  pub ends : List WriteEnd
  pub written : Written destinations own response.own tables ends
  pub memory : list_any is_out_of_memory ends ≡ true

-- all is as it was, or where the tables of the answer went ran out of memory
abbrev pub LeavesPart : DestinationsInCall → FolderInCall → ResponseValue → Type 0
LeavesPart destinations own response = AllStays destinations own ⊎ LeavesTables destinations own response

-- what being out of memory leaves
abbrev pub Leaves : DestinationsInCall → FolderInCall → Allowed → Type 0
Leaves destinations own allowed =
    AllStays destinations own
    ⊎ ((response : ResponseValue) × allowed response × LeavesPart destinations own response)

-- no destination's error count increased, nor that of the folder
pub record NoneFails (destinations : DestinationsInCall) (own : FolderInCall) : Type 0 where
  pub each : (i : ℕ) → i < length destinations.old → (x y : Destination destinations.G)
      → ErrorCountIncreased (destinations.state (slice_index_or destinations.old i x).folder).faults
      (destinations.state (slice_index_or destinations.new i y).folder).faults → ⊥
  pub folder : ErrorCountIncreased (own.state own.old).faults (own.state own.new).faults → ⊥

-- each destination has the files of all these tables
pub record AllHave (destinations : DestinationsInCall) (tables : List TableValue) : Type 0 where
  pub count : length destinations.new ≡ length destinations.old
  pub each : (i : ℕ) → i < length destinations.old → (x y : Destination destinations.G)
      → AllWritten (table_files [] (slice_index_or destinations.old i x).format tables)
      (destinations.state (slice_index_or destinations.old i x).folder)
      (destinations.state (slice_index_or destinations.new i y).folder)

-- where tables go has all of them
abbrev pub AreThere : DestinationsInCall → FolderInCall → Option OwnFolder → List TableValue → Type 0
AreThere destinations own None tables = (own.new ≡ own.old) × AllHave destinations tables
AreThere destinations own (Some folder) tables =
    (destinations.new ≡ destinations.old)
    × FolderHas folder.name folder.script tables (own.state own.old) (own.state own.new)

-- where the tables of an answer go has all of them; without tables all is as it was
abbrev pub HaveTables : DestinationsInCall → FolderInCall → ResponseValue → Type 0
HaveTables destinations own response =
    MatchOption response.tables (AllStays destinations own) (AreThere destinations own response.own)

-- what the call ends with
abbrev pub outcome_value : Outcome → OutcomeValue
outcome_value end = record { status = end.status; text = end.text.items }
