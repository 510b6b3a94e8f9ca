-- The row at a position of a list of rows: for the store of rows, for what reads and writes rows, and for
-- rows under a free header (`headed_rows/Headings`).
use Rattle.std.specs.Prelude.{ℕ, [], slice_index_or}
use Rattle.dep_model.specs.Tuples.{Tuple, Relation}

abbrev pub row_at : Relation → ℕ → Tuple
row_at rows i = slice_index_or rows i []
