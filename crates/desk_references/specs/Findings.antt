-- The references between files: for `discover references`.
use Rattle.std.specs.Prelude.{ℕ, List, [], ◌++◌, codes, map, slice_index_or}
use Rattle.std.specs.List.{flat_map}
use Rattle.desk_discovery.specs.Discoveries.{column_text}
use Rattle.desk_responses.specs.ResponseValues.{Allowed, Says}
use Rattle.desk_responses.specs.declared.status.Status.TheVariants.{Yes}
use Rattle.desk_texts.specs.Texts.{line}
use Rattle.file_references.specs.Columns.{file_at}
use Rattle.file_references.specs.References.{AreAllReferences, Reference}
use Rattle.headed_rows.specs.Headings.{HeadedRows}
use Rattle.schema_printer.specs.Printing.{words_text}

-- a file of these names, at a position, and columns of it, by their names as they are printed
abbrev pub columns_text : List (List ℕ) → List HeadedRows → ℕ → List ℕ → List ℕ
columns_text names files i columns =
    slice_index_or names i [] ++ words_text (map (column_text (file_at files i).names) columns)

-- a reference, on a line
abbrev pub reference_text : List (List ℕ) → List HeadedRows → Reference → List ℕ
reference_text names files ref =
    line (columns_text names files ref.file ref.columns ++ codes " references "
    ++ columns_text names files ref.target ref.key)

-- yes, with exactly the references between files of these names, in order
abbrev pub FindsReferences : List (List ℕ) → List HeadedRows → Allowed
FindsReferences names files response =
    (refs : List Reference) × AreAllReferences files refs
    × Says Yes (flat_map (reference_text names files) refs) response
