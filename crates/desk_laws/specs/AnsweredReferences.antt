-- When words are answered, as the laws of `complete_references` say it: references between files. `Desk` does not
-- cite it.
use Rattle.std.specs.Prelude.{◌≡◌, ℕ, true, List, [], ◌∷◌, codes, length}
use Rattle.headed_rows.specs.Headings.{HeadedRows}
use Rattle.desk_outside.specs.Files.{Files}
use Rattle.desk_inputs.specs.FileKinds.{AreFiles, IsFile}
use Rattle.desk_inputs.specs.Headed.{headed_file}
use Rattle.desk_inputs.specs.Readings.{known_files}
use Rattle.desk_references.specs.ColumnLists.{AreColumns}
use Rattle.desk_words.specs.Forms.{are_one_to_64}
use Rattle.desk_laws.specs.Completeness.{IsAnswered, IsAnsweredYes}

-- `discover references` is answered by yes where from one to 64 CSV files each have a header that names its columns,
-- and rows under it
abbrev pub DiscoverReferencesIsAnswered : Type 0
DiscoverReferencesIsAnswered =
    (files : Files) (names : List (List ℕ)) (read : List HeadedRows)
    → are_one_to_64 names ≡ true → AreFiles headed_file (known_files files) names read
    → IsAnsweredYes files (codes "discover" ∷ codes "references" ∷ names)

-- `check references` is answered where two CSV files each have a header that names its columns, and rows under it, and
-- the two words state as many of these columns
abbrev pub CheckReferencesIsAnswered : Type 0
CheckReferencesIsAnswered =
    (files : Files) (file first other second : List ℕ) (own others : HeadedRows) (x k : List ℕ)
    → IsFile headed_file (known_files files) file own → IsFile headed_file (known_files files) other others
    → AreColumns own.names first x → AreColumns others.names second k → length x ≡ length k
    → IsAnswered files (codes "check" ∷ codes "references" ∷ file ∷ first ∷ other ∷ second ∷ [])
