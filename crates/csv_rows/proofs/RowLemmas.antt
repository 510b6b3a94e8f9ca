-- Lists of rows: what stands before a position, and at it.
use Rattle.std.proofs.Common.{◌≡◌, ℕ, ◌+◌, ◌<◌, List, [], ◌∷◌, ◌++◌, length, get_or, take, ap, sym, ◌∙◌}
use Rattle.std.proofs.lemmas.List.{flat_map_more, take_more}
use Rattle.csv.specs.Writing.{row_text, default_writer}
use Rattle.csv_text.specs.Rows.{rows_text}

-- the text of the rows before a position and of the one that is there
pub rows_text_next :
    (names : List (List ℕ)) (rows : List (List (List ℕ))) (i : ℕ) (fields : List (List ℕ))
    → i < length rows → fields ≡ get_or rows i []
    → rows_text names (take i rows) ++ row_text default_writer fields ≡ rows_text names (take (i + 1) rows)
rows_text_next names rows i fields within is_fields =
    ap (λ (last : List (List ℕ)). rows_text names (take i rows) ++ row_text default_writer last) is_fields
    ∙ flat_map_more (row_text default_writer) (row_text default_writer names) (take i rows) (get_or rows i [])
    ∙ ap (λ (front : List (List (List ℕ))). rows_text names front) (sym (take_more rows i [] within))
