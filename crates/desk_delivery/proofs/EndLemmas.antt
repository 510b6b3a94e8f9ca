-- What the whole call ends with, by how writing ended: what there is where nothing failed, and which answers give tables.
use Rattle.std.proofs.Common.{◌≡◌, ◌⊎◌, inl, inr, ℕ, zero, suc, ◌<◌, ◌≤◌, arith, Bool, true, false, if◌then◌else◌, List, [], ◌∷◌, ◌++◌, length, get_or, Option, Some, None, refl, sym, ap, ◌∙◌, subst}
use Rattle.std.specs.Prelude.{MatchOption, Ok, Err, is_ok}
use Rattle.std.specs.List.{list_any, list_all}
use Rattle.desk_outside.specs.Causes.{ErrorCountIncreased}
use Rattle.desk_outside.specs.declared.failure.OutsideFault.{OutsideFault}
use Rattle.desk_outside.specs.declared.failure.OutsideFault.TheVariants.{Failed, OutOfMemory}
use Rattle.desk_outside.specs.Files.{StoredFile}
use Rattle.desk_outside.specs.Folders.{FolderState, folder_path}
use Rattle.named_tables.specs.Tables.{TableValue}
use Rattle.destinations.specs.Formats.{table_files}
use Rattle.destinations.specs.Writing.{AllWritten, FilesWritten, WriteEnd}
use Rattle.destinations.specs.declared.destination.Destination.{Destination}
use Rattle.destinations.specs.declared.format.TableFormat.TheVariants.{Csv}
use Rattle.destinations.proofs.FileLemmas.{all_and_one}
use Rattle.table_writing.specs.Writing.{AtEachPosition, WrittenDestination}
use Rattle.own_folder.specs.OwnFiles.{load_file}
use Rattle.own_folder.specs.OwnWriting.{FilesOfOwn, FolderHas, NotMade, WrittenInOwn, WrittenToFolder}
use Rattle.desk_responses.specs.declared.status.Status.{Status}
use Rattle.desk_responses.specs.declared.status.Status.TheVariants.{Yes, DestinationFailed}
use Rattle.desk_responses.specs.ResponseValues.{OwnFolder, ResponseValue}
use Rattle.desk_delivery.specs.Outcomes.{OutcomeValue, AllHave, AllStays, AreThere, ComesTo, DestinationsInCall, FolderInCall, HaveTables, NoneFails, Written, WritesTables, failures_text, is_out_of_memory, outcome_of_response, reported_outcome}

-- ---- ends
none_at : (test : WriteEnd → Bool) (ends : List WriteEnd) (i : ℕ) (d : WriteEnd) → list_any test ends ≡ false → i < length ends → test (get_or ends i d) ≡ false
none_at test [] i d none within = absurd (omega (arith, within))
none_at test (end ∷ ends) zero d none within = (either (test end) refl none).0
  where
    either : (b : Bool) → test end ≡ b → list_any test (end ∷ ends) ≡ false → (test end ≡ false) × (list_any test ends ≡ false)
    either true is none = absurd cc
    either false is none = (is, cc)
none_at test (end ∷ ends) (suc i) d none within = none_at test ends i d (rest (test end) refl none) (omega (arith, within))
  where
    rest : (b : Bool) → test end ≡ b → list_any test (end ∷ ends) ≡ false → list_any test ends ≡ false
    rest true is none = absurd cc
    rest false is none = cc

all_of : (test : WriteEnd → Bool) (ends : List WriteEnd) (d : WriteEnd) → ((i : ℕ) → i < length ends → test (get_or ends i d) ≡ true) → list_all test ends ≡ true
all_of test [] d each = refl
all_of test (end ∷ ends) d each =
    let first : test end ≡ true = each zero (omega arith) in
    let rest : list_all test ends ≡ true = all_of test ends d (λ i within. each (suc i) (omega (arith, within))) in
    cc

-- writing of which no call failed and that did not run out of memory
done_at : (files : List StoredFile) (old new : FolderState) (end : WriteEnd) → is_out_of_memory end ≡ false → FilesWritten files old new end
    → (ErrorCountIncreased old.faults new.faults → ⊥) → (is_ok end ≡ true) × AllWritten files old new
done_at files old new (Ok u) none written calm = (refl, written.ok)
done_at files old new (Err Failed) none written calm = absurd (calm (written.cause.failed refl))
done_at files old new (Err OutOfMemory) none written calm = absurd cc

-- the value of a list at a position within it
one_of : {X : Type 0} (xs : List X) (i : ℕ) → i < length xs → X
one_of [] i within = absurd (omega (arith, within))
one_of (x ∷ xs) i within = x

-- ---- destinations
-- where no destination's error count increased and none ran out of memory, all have all tables
all_done : (destinations : DestinationsInCall) (own : FolderInCall) (tables : List TableValue) (ends : List WriteEnd)
    → AtEachPosition (WrittenDestination destinations.state tables) destinations.old destinations.new ends
    → list_any is_out_of_memory ends ≡ false → NoneFails destinations own → (list_all is_ok ends ≡ true) × AllHave destinations tables
all_done destinations own tables ends written none calm = (
  all_of is_ok ends (Ok tt) (λ i within. let short : i < length destinations.old = omega (arith, within, written.results) in let x = one_of destinations.old i short in (at i short x x).0),
  record { count = written.news; each = λ i within x y. (at i within x y).1 },
)
  where
    at : (i : ℕ) → i < length destinations.old → (x y : Destination destinations.G)
        → (is_ok (get_or ends i (Ok tt)) ≡ true)
        × AllWritten (table_files [] (get_or destinations.old i x).format tables) (destinations.state (get_or destinations.old i x).folder) (destinations.state (get_or destinations.new i y).folder)
    at i within x y =
        done_at (table_files [] (get_or destinations.old i x).format tables) (destinations.state (get_or destinations.old i x).folder)
        (destinations.state (get_or destinations.new i y).folder) (get_or ends i (Ok tt))
        (none_at is_out_of_memory ends i (Ok tt) none (omega (arith, within, written.results)))
        (written.each i within x y (Ok tt)).written (calm.each i within x y)

-- ---- a folder of their own
-- neither a failure before a call nor one of the call itself goes unseen by the error count
raised_first : (before count after : ℕ) → ErrorCountIncreased before count → count ≤ after → ErrorCountIncreased before after
raised_first before count after raised later = omega (arith, raised, later)

-- the CSV files and the script, where nothing failed and memory was enough
files_done : (path script : List ℕ) (tables : List TableValue) (old new : FolderState) (csv load : WriteEnd) → FilesOfOwn path script tables old new csv load
    → list_any is_out_of_memory (csv ∷ load ∷ []) ≡ false → (ErrorCountIncreased old.faults new.faults → ⊥)
    → (list_all is_ok (csv ∷ load ∷ []) ≡ true) × AllWritten (table_files path Csv tables ++ load_file path script tables ∷ []) old new
files_done path script tables old new (Ok u) (Ok v) written memory calm =
    (refl, all_and_one (table_files path Csv tables) (load_file path script tables) old written.middle new written.of_csv.ok written.of_load)
files_done path script tables old new (Err OutOfMemory) load written memory calm = absurd cc
files_done path script tables old new (Ok u) (Err OutOfMemory) written memory calm = absurd cc
files_done path script tables old new (Err Failed) load written memory calm =
    absurd (calm (raised_first old.faults written.middle.faults new.faults (written.of_csv.cause.failed refl) written.of_load.cause.later))
files_done path script tables old new (Ok u) (Err Failed) written memory calm =
    absurd (calm (subst (λ (count : ℕ). ErrorCountIncreased count new.faults) written.of_csv.cause.fine (written.of_load.cause.failed refl)))

-- a folder that could not be made raises the error count, unless memory ran out
never_made : (name : List ℕ) (old new : FolderState) (csv load : WriteEnd) → NotMade name old new csv load
    → list_any is_out_of_memory (csv ∷ load ∷ []) ≡ false → (ErrorCountIncreased old.faults new.faults → ⊥) → ⊥
never_made name old new csv load not_made memory calm = by_fault not_made.fault refl
  where
    by_fault : (fault : OutsideFault) → not_made.fault ≡ fault → ⊥
    by_fault Failed is = calm (not_made.fails.cause.failed (ap Err is))
    by_fault OutOfMemory is =
        let csv_is : is_out_of_memory csv ≡ true = ap is_out_of_memory (not_made.csv_fails ∙ ap Err is) in
        cc

folder_has : (name script : List ℕ) (tables : List TableValue) (old new : FolderState) (ends : List WriteEnd) → WrittenToFolder name script tables old new ends
    → list_any is_out_of_memory ends ≡ false → (ErrorCountIncreased old.faults new.faults → ⊥)
    → (list_all is_ok ends ≡ true) × FolderHas name script tables old new
folder_has name script tables old new ends (csv, load, are, how) memory calm =
    subst (λ (list : List WriteEnd). (list_all is_ok list ≡ true) × FolderHas name script tables old new) (sym are)
    (in_either how (subst (λ (list : List WriteEnd). list_any is_out_of_memory list ≡ false) are memory))
  where
    in_either : NotMade name old new csv load ⊎ WrittenInOwn name script tables old new csv load → list_any is_out_of_memory (csv ∷ load ∷ []) ≡ false
        → (list_all is_ok (csv ∷ load ∷ []) ≡ true) × FolderHas name script tables old new
    in_either (inl not_made) enough = absurd (never_made name old new csv load not_made enough calm)
    in_either (inr written) enough =
        let done = files_done (folder_path name) script tables written.made new csv load written.files enough
        (λ raised. calm (subst (λ (count : ℕ). ErrorCountIncreased count new.faults) written.makes.cause.fine raised)) in
        (done.0, record { made = written.made; makes = written.makes; files = done.1 })

-- ---- answers
reported_plainly : (response : ResponseValue) (ending : OutcomeValue) (ends : List WriteEnd) → ending ≡ reported_outcome response ends → list_all is_ok ends ≡ true → ending ≡ outcome_of_response response
reported_plainly response ending ends reports done = reports ∙ ap (λ (b : Bool). if b then outcome_of_response response else record { status = DestinationFailed; text = failures_text 1 ends }) done

all_there : (destinations : DestinationsInCall) (own : FolderInCall) (into : Option OwnFolder) (tables : List TableValue) (ends : List WriteEnd) → Written destinations own into tables ends
    → list_any is_out_of_memory ends ≡ false → NoneFails destinations own → (list_all is_ok ends ≡ true) × AreThere destinations own into tables
all_there destinations own None tables ends (stays, written) memory calm =
    let all = all_done destinations own tables ends written memory calm in (all.0, (stays, all.1))
all_there destinations own (Some folder) tables ends (same, written) memory calm =
    let has = folder_has folder.name folder.script tables (own.state own.old) (own.state own.new) ends written memory calm.folder in
    (has.0, (same, has.1))

-- where nothing fails, an answer ends plainly, and where its tables went has them
plainly : (destinations : DestinationsInCall) (own : FolderInCall) (response : ResponseValue) (ending : OutcomeValue) (tables : Option (List TableValue))
    → MatchOption tables (AllStays destinations own × (ending ≡ outcome_of_response response)) (WritesTables destinations own response ending) → NoneFails destinations own
    → (ending ≡ outcome_of_response response) × MatchOption tables (AllStays destinations own) (AreThere destinations own response.own)
plainly destinations own response ending None (same, is) calm = (is, same)
plainly destinations own response ending (Some ts) writes calm =
    let there = all_there destinations own response.own ts writes.ends writes.written writes.memory calm in
    (reported_plainly response ending writes.ends writes.reports there.0, there.1)

pub plain_outcome_without_failure : (destinations : DestinationsInCall) (own : FolderInCall) (response : ResponseValue) (ending : OutcomeValue)
    → ComesTo destinations own response ending → NoneFails destinations own → (ending ≡ outcome_of_response response) × HaveTables destinations own response
plain_outcome_without_failure destinations own response ending comes calm = plainly destinations own response ending response.tables comes calm

yes_or_failed : (response : ResponseValue) (b : Bool) (text : List ℕ) → response.status ≡ Yes
    → ((if b then outcome_of_response response else record { status = DestinationFailed; text = text }).status ≡ Yes) ⊎ ((if b then outcome_of_response response else record { status = DestinationFailed; text = text }).status ≡ DestinationFailed)
yes_or_failed response true text said = inl said
yes_or_failed response false text said = inr refl

-- with any status but yes and that of a destination that failed all is as it was
stays_unless : (destinations : DestinationsInCall) (own : FolderInCall) (response : ResponseValue) (ending : OutcomeValue) (tables : Option (List TableValue))
    → MatchOption tables (AllStays destinations own × (ending ≡ outcome_of_response response)) (WritesTables destinations own response ending)
    → (((ending.status ≡ Yes) ⊎ (ending.status ≡ DestinationFailed)) → ⊥) → AllStays destinations own
stays_unless destinations own response ending None (same, is) other = same
stays_unless destinations own response ending (Some ts) writes other =
    absurd
    (other
    (subst (λ (s : Status). (s ≡ Yes) ⊎ (s ≡ DestinationFailed)) (sym (ap (λ (e : OutcomeValue). e.status) writes.reports))
    (yes_or_failed response (list_all is_ok writes.ends) (failures_text 1 writes.ends) writes.yes)))

pub stays_without_yes : (destinations : DestinationsInCall) (own : FolderInCall) (response : ResponseValue) (ending : OutcomeValue)
    → ComesTo destinations own response ending → (((ending.status ≡ Yes) ⊎ (ending.status ≡ DestinationFailed)) → ⊥) → AllStays destinations own
stays_without_yes destinations own response ending comes other = stays_unless destinations own response ending response.tables comes other
