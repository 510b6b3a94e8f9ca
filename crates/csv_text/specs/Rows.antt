-- The CSV text of rows: for `print_rows`, and for the commands that print rows (`desk_texts/Texts`,
-- `desk_tables/Rejoining`).
use Rattle.std.specs.Prelude.{◌≡◌, ℕ, false, Option, Some, List, ◌∷◌, ◌++◌}
use Rattle.std.specs.List.{flat_map}
use Rattle.csv.specs.Writing.{row_text, default_writer, writer_setup, fields_written, has_written, text_written}
use Rattle.csv.specs.declared.writer.Writer.{Writer}
use Rattle.dep_model.specs.Tuples.{Tuple, Relation}

-- a row as `csv` writes it with its default settings
abbrev pub csv_row : Tuple → List ℕ
csv_row row = row_text default_writer row

-- the rows, one after the other
abbrev pub rows_only : Relation → List ℕ
rows_only rows = flat_map csv_row rows

-- a header of these names, and then the rows
abbrev pub rows_text : List (List ℕ) → Relation → List ℕ
rows_text names rows = rows_only (names ∷ rows)

-- a writer with the default settings between two rows, and the text that it was given
pub record HasWritten {W : Type 0} (contents : W → Option (List ℕ)) (w : Writer W) (text : List ℕ)
    : Type 0 where
  pub setup : writer_setup w ≡ default_writer
  pub fields : fields_written w ≡ 0
  pub fresh : has_written w ≡ false
  pub whole : text_written contents w ≡ Some text

-- one row more is written
abbrev pub WritesRow : {W : Type 0} → (W → Option (List ℕ)) → Writer W → Writer W → List (List ℕ) → Type 0
WritesRow contents old new row =
    (text : List ℕ) → HasWritten contents old text → HasWritten contents new (text ++ csv_row row)
