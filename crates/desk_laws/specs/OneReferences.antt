-- What the laws of `one_references` say: of references between files. `Desk` does not cite it.
use Rattle.std.specs.Prelude.{◌≡◌, ◌↔◌, ℕ, List, Contains}
use Rattle.headed_rows.specs.Headings.{HeadedRows}
use Rattle.file_references.specs.Columns.{HasWholeRow, file_at}
use Rattle.file_references.specs.References.{AreAllReferences, IsCandidate, Reference}
use Rattle.implication_laws.specs.OneAnswer.{AllowsOne}
use Rattle.desk_references.specs.Checks.{ChecksReferences}
use Rattle.desk_references.specs.ColumnLists.{AreColumns}
use Rattle.desk_references.specs.Findings.{FindsReferences}
use Rattle.desk_responses.specs.ResponseValues.{ResponseValue}
use Rattle.desk_responses.specs.declared.status.Status.TheVariants.{Yes}

-- `discover references` has one answer
abbrev pub OneAnswerOfDiscoverReferences : Type 0
OneAnswerOfDiscoverReferences =
    (names : List (List ℕ)) (files : List HeadedRows) → AllowsOne (FindsReferences names files)

-- `check references` has one answer
abbrev pub OneAnswerOfCheckReferences : Type 0
OneAnswerOfCheckReferences =
    (own : HeadedRows) (first : List ℕ) (other : HeadedRows) (second : List ℕ)
    → AllowsOne (ChecksReferences own first other second)

-- `discover references` has a source and a target among its references exactly where `check references`, of two words
-- that state their columns, answers yes, and some row misses none of the source's values
abbrev pub ReferencesAreChecked : Type 0
ReferencesAreChecked =
    (files : List HeadedRows) (refs : List Reference) (ref : Reference) (first second : List ℕ)
    (response : ResponseValue)
    → AreAllReferences files refs → IsCandidate files ref
    → AreColumns (file_at files ref.file).names first ref.columns
    → AreColumns (file_at files ref.target).names second ref.key
    → ChecksReferences (file_at files ref.file) first (file_at files ref.target) second response
    → Contains refs ref ↔ ((response.status ≡ Yes) × HasWholeRow (file_at files ref.file).rows ref.columns)
