-- What the whole call ends with, by the answer of a command.
use Rattle.std.proofs.Common.{◌≡◌, ◌⊎◌, inl, inr, ℕ, ◌≤◌, List, Option, Some, Result, Ok, Err, ap, ◌∙◌, subst}
use Rattle.dep_model.specs.declared.memory.OutOfMemory.{OutOfMemory as MemoryError}
use Rattle.desk_outside.specs.Causes.{ErrorCountIncreased}
use Rattle.desk_outside.specs.Files.{Files}
use Rattle.desk_responses.specs.declared.status.Status.{Status}
use Rattle.desk_responses.specs.declared.status.Status.TheVariants.{Yes, CannotWrite, DestinationFailed}
use Rattle.desk_responses.specs.ResponseValues.{ResponseValue}
use Rattle.desk_delivery.specs.Outcomes.{OutcomeValue, AllStays, ComesTo, DestinationsInCall, EndsAs, FolderInCall, NoneFails}
use Rattle.desk_delivery.proofs.EndLemmas.{plain_outcome_without_failure, stays_without_yes}
use Rattle.std.specs.Io.KnownBytes.{append_known}
use Rattle.desk_cli.specs.FilesRead.{files_of_words}
use Rattle.desk_inputs.specs.FilesBegun.{BeginsFront}
use Rattle.desk_cli.specs.Desk.{IsLastBegun, Desk, Delivered, Delivers, FileSourceInCall, SinkInCall, looks_in, reading_in_call, Notes, notice_text, WritesWhole, WritesPart, IsNoOrStops}
use Rattle.desk_cli.specs.Help.{hint_of}
use Rattle.desk_cli.specs.Performs.{Answers}
use Rattle.desk_inputs.specs.Readings.{known_files}

not_those : (status : Status) → (status ≡ Yes) ⊎ (status ≡ DestinationFailed) → IsNoOrStops status → ⊥
not_those status (inl is) (inl other) = cc
not_those status (inl is) (inr (inl other)) = cc
not_those status (inl is) (inr (inr other)) = cc
not_those status (inr is) (inl other) = cc
not_those status (inr is) (inr (inl other)) = cc
not_those status (inr is) (inr (inr other)) = cc

not_written : (status : Status) → status ≡ CannotWrite → IsNoOrStops status → ⊥
not_written status is (inl other) = cc
not_written status is (inr (inl other)) = cc
not_written status is (inr (inr other)) = cc

-- ---- the top call
-- an answer that is allowed, delivered
pub desk_delivered : (words : List (List ℕ)) (source : FileSourceInCall) (sink notices : SinkInCall) (destinations : DestinationsInCall) (own : FolderInCall) (response : ResponseValue) (result : Result Status MemoryError)
    → ((last : Option (List ℕ)) → IsLastBegun source last → Answers (looks_in own) (reading_in_call source last) words response)
    → ((files : Files) → source.files ≡ Some files → (ErrorCountIncreased source.before source.after → ⊥) → Answers (looks_in own) (known_files files) words response)
    → Delivered sink notices (hint_of words) destinations own response result → source.files_after ≡ source.files → source.before ≤ source.after
    → BeginsFront (files_of_words words) source.begun_before source.begun_after → Desk words source sink notices destinations own result
desk_delivered words source sink notices destinations own response result seen_so known_so delivered files reads begun = record {
  reads = begun;
  response = λ last named status is. ended last named status (delivered.ends status is);
  complete = λ files are calm calm_sink none_fails status is. whole files are calm calm_sink none_fails status (delivered.ends status is);
  stay = λ status is other. stays status other (delivered.ends status is);
  memory = λ last named e is. ((delivered.memory e is).0, (delivered.memory e is).1, inr (response, seen_so last named, (delivered.memory e is).2));
  destinations_stay = delivered.count;
  files_stay = files;
  reads_later = reads;
  writes_later = delivered.later;
  notes_later = delivered.notes_later;
}
  where
    ended : (last : Option (List ℕ)) → IsLastBegun source last → (status : Status)
        → WritesWhole sink notices (hint_of words) (ComesTo destinations own response) status ⊎ WritesPart sink notices (hint_of words) (ComesTo destinations own response) status
        → WritesWhole sink notices (hint_of words) (EndsAs destinations own (Answers (looks_in own) (reading_in_call source last) words)) status
        ⊎ WritesPart sink notices (hint_of words) (EndsAs destinations own (Answers (looks_in own) (reading_in_call source last) words)) status
    ended last named status (inl (ending, comes, same, written, fine, noted)) = inl (ending, (response, seen_so last named, comes), same, written, fine, noted)
    ended last named status (inr (cannot, increased, (ending, comes, took, noted))) = inr (cannot, increased, (ending, (response, seen_so last named, comes), took, noted))

    whole : (files : Files) → source.files ≡ Some files → (ErrorCountIncreased source.before source.after → ⊥) → (ErrorCountIncreased sink.before sink.after → ⊥) → NoneFails destinations own
        → (status : Status)
        → WritesWhole sink notices (hint_of words) (ComesTo destinations own response) status ⊎ WritesPart sink notices (hint_of words) (ComesTo destinations own response) status
        → Delivers sink notices (hint_of words) destinations own (Answers (looks_in own) (known_files files) words) status
    whole files are calm calm_sink none_fails status (inl (ending, comes, same, written, none, noted)) =
        let end = plain_outcome_without_failure destinations own response ending comes none_fails in (
          response,
          known_so files are calm,
          same ∙ ap (λ (e : OutcomeValue). e.status) end.0,
          written ∙ ap (λ (e : OutcomeValue). append_known sink.old e.text) end.0,
          end.1,
          subst (λ (e : OutcomeValue). Notes notices (notice_text (hint_of words) e)) end.0 noted,
        )
    whole files are calm calm_sink none_fails status (inr (cannot, increased, part)) = absurd (calm_sink increased)

    stays : (status : Status) → IsNoOrStops status
        → WritesWhole sink notices (hint_of words) (ComesTo destinations own response) status ⊎ WritesPart sink notices (hint_of words) (ComesTo destinations own response) status
        → AllStays destinations own
    stays status other (inl (ending, comes, same, written, none, noted)) = stays_without_yes destinations own response ending comes (λ said. not_those ending.status said (subst IsNoOrStops same other))
    stays status other (inr (cannot, increased, part)) = absurd (not_written status cannot other)
