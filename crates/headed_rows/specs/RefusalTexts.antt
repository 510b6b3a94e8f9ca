-- The numbers and the words of the refusals of rows under a free header: for their `Display`, and for
-- the line that refuses such a file.
use Rattle.std.specs.Prelude.{ℕ, List, ◌++◌, codes}
use Rattle.std.specs.Fmt.{decimal}
use Rattle.headed_rows.specs.declared.refusal.HeaderRefusal.{HeaderRefusal}
use Rattle.headed_rows.specs.declared.refusal.HeaderRefusal.TheVariants as refusal

-- the number of a refusal
abbrev pub headed_refusal_number : HeaderRefusal → ℕ
headed_refusal_number refusal.NoHeader = 1
headed_refusal_number refusal.TooManyColumns = 2
headed_refusal_number (refusal.BadColumn column) = 3
headed_refusal_number (refusal.DoubleColumn column) = 4
headed_refusal_number (refusal.UnevenRow row) = 5
headed_refusal_number refusal.TooManyRows = 6
headed_refusal_number refusal.OpenHeader = 8
headed_refusal_number (refusal.OpenRow row) = 8

-- a refusal in words
abbrev pub headed_reason_text : HeaderRefusal → List ℕ
headed_reason_text refusal.NoHeader = codes "no header"
headed_reason_text refusal.TooManyColumns = codes "too many columns"
headed_reason_text (refusal.BadColumn column) = codes "bad column " ++ decimal column
headed_reason_text (refusal.DoubleColumn column) = codes "column " ++ decimal column ++ codes " repeated"
headed_reason_text (refusal.UnevenRow row) = codes "row " ++ decimal row ++ codes " has the wrong length"
headed_reason_text refusal.TooManyRows = codes "too many rows"
headed_reason_text refusal.OpenHeader = codes "the header has an open quote"
headed_reason_text (refusal.OpenRow row) = codes "row " ++ decimal row ++ codes " has an open quote"
