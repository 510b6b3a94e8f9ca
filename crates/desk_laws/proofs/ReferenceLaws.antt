-- Where the files of `discover references` and `check references` have their meaning, these commands are answered.
use Rattle.std.proofs.Common.{◌≡◌, ◌&&◌, ℕ, Bool, true, false, List, [], ◌∷◌, length, nat_lt, nat_le, inl, inr, refl, ap}
use Rattle.std.proofs.lemmas.Bool.{and_parts}
use Rattle.std.specs.Prelude.{codes}
use Rattle.headed_rows.specs.Headings.{HeadedRows, discovered}
use Rattle.desk_cli.specs.Performs.{Answers, Performs}
use Rattle.desk_inputs.specs.FileKinds.{AreFiles, IsFile, WithFile, WithFiles}
use Rattle.desk_inputs.specs.Headed.{headed_file}
use Rattle.desk_inputs.specs.Readings.{known_files}
use Rattle.desk_outside.specs.Files.{Files}
use Rattle.desk_references.specs.Checks.{ChecksReferences, JudgesReference}
use Rattle.desk_references.specs.ColumnLists.{AreColumns}
use Rattle.desk_references.specs.Findings.{FindsReferences}
use Rattle.desk_responses.specs.ResponseValues.{ResponseValue}
use Rattle.desk_tables.specs.OwnFolders.{Looks}
use Rattle.desk_words.specs.Forms.{after_check, after_discover, are_one_to_64, form_of, form_over_schema, several_files, two_named_files}
use Rattle.desk_words.specs.declared.command.TheConstants.{MOST_FILES}
use Rattle.desk_laws.specs.Completeness.{IsAnswered, IsAnsweredYes, IsYesOrNo}
use Rattle.desk_laws.proofs.OneFile.{after_file}
use Rattle.desk_laws.proofs.OneInput.{after_headed_files}
use Rattle.desk_laws.proofs.OneReferences.{judged}
use Rattle.desk_laws.proofs.OneText.{headed_text_once}
use Rattle.desk_laws.proofs.StopLemmas.{status_is}

-- ---- `discover references`
references_ask : (files : Files) (names : List (List ℕ)) (looks : Looks) (response : ResponseValue)
    → nat_lt 0 (length names) ≡ true → nat_le (length names) MOST_FILES ≡ true
    → Answers looks (known_files files) (codes "discover" ∷ codes "references" ∷ names) response
    → WithFiles headed_file (known_files files) names (FindsReferences names) response
unfolding form_of after_discover several_files Performs
references_ask files names looks response some few answered = (rw (some, few) at answered)

pub references_answered : (files : Files) (names : List (List ℕ)) (read : List HeadedRows)
    → are_one_to_64 names ≡ true → AreFiles headed_file (known_files files) names read
    → IsAnsweredYes files (codes "discover" ∷ codes "references" ∷ names)
references_answered files names read many are looks response answered =
    let parts = and_parts (nat_lt 0 (length names)) (nat_le (length names) MOST_FILES) many in
    let found = after_headed_files files names read (FindsReferences names) response are
    (references_ask files names looks response parts.0 parts.1 answered) in
    ap (λ (a : ResponseValue). a.status) found.2

-- ---- `check references`
check_asks : (files : Files) (file first other second : List ℕ) (looks : Looks) (response : ResponseValue)
    → Answers looks (known_files files) (codes "check" ∷ codes "references" ∷ file ∷ first ∷ other ∷ second ∷ []) response
    → WithFile headed_file (known_files files) file
    (λ own. WithFile headed_file (known_files files) other (λ others. ChecksReferences own first others second)) response
unfolding form_of form_over_schema after_check two_named_files Performs
check_asks files file first other second looks response answered = answered

judged_status : (own : HeadedRows) (x : List ℕ) (others : HeadedRows) (k : List ℕ) (response : ResponseValue)
    → JudgesReference own x others k response → IsYesOrNo response.status
judged_status own x others k response (inl (within, says)) = inl (status_is response _ says)
judged_status own x others k response (inr (not_within, says)) = inr (status_is response _ says)

pub check_answered : (files : Files) (file first other second : List ℕ) (own others : HeadedRows) (x k : List ℕ)
    → IsFile headed_file (known_files files) file own → IsFile headed_file (known_files files) other others
    → AreColumns own.names first x → AreColumns others.names second k → length x ≡ length k
    → IsAnswered files (codes "check" ∷ codes "references" ∷ file ∷ first ∷ other ∷ second ∷ [])
check_answered files file first other second own others x k held held_other are also same looks response answered =
    judged_status own x others k response
    (judged own others first second x k response are also same
    (after_file files other headed_file (headed_text_once discovered) others (λ read. ChecksReferences own first read second)
    response held_other
    (after_file files file headed_file (headed_text_once discovered) own
    (λ read. WithFile headed_file (known_files files) other (λ more. ChecksReferences read first more second)) response held
    (check_asks files file first other second looks response answered))))
