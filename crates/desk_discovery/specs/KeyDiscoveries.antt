-- The minimal keys of the rows of a file: for `discover keys`.
use Rattle.std.specs.Prelude.{◌⊎◌, ℕ, List, ◌++◌, codes, length, map}
use Rattle.std.specs.List.{flat_map}
use Rattle.attr_sets.specs.Attributes.{Attributes}
use Rattle.headed_rows.specs.Headings.{HeadedRows}
use Rattle.headed_rows.specs.Headers.{naming_under}
use Rattle.fd_search.specs.Keys.{AreRowKeys, HasTooManyKeys}
use Rattle.schema_printer.specs.Printing.{set_text}
use Rattle.schema_printer.specs.Spelling.{spelling}
use Rattle.desk_responses.specs.declared.status.Status.TheVariants.{Yes, Refused}
use Rattle.desk_responses.specs.ResponseValues.{Allowed, Says}
use Rattle.desk_texts.specs.Texts.{line}

-- a line for each set of columns, by their names as they are printed
abbrev pub row_keys_text : List (List ℕ) → List Attributes → List ℕ
row_keys_text names keys = flat_map (λ key. line (set_text (map (spelling (naming_under names)) names) key)) keys

-- the refusal of a file of this name
abbrev pub too_many_row_keys_text : List ℕ → List ℕ
too_many_row_keys_text file = line (codes "refused: discover 7 at " ++ file ++ codes ": too many keys")

-- yes, with exactly the minimal keys, ascending
abbrev pub GivesRowKeys : HeadedRows → Allowed
GivesRowKeys headed response =
    (keys : List Attributes) × AreRowKeys (length headed.names) headed.rows keys
    × Says Yes (row_keys_text headed.names keys) response

-- refused: some evidence of different rows has too many candidates
abbrev pub RefusesRowKeys : List ℕ → HeadedRows → Allowed
RefusesRowKeys file headed response =
    HasTooManyKeys (length headed.names) headed.rows
    × Says Refused (too_many_row_keys_text file) response

-- the keys of the rows of a file of this name, or that refusal
abbrev pub FindsRowKeys : List ℕ → HeadedRows → Allowed
FindsRowKeys file headed response = GivesRowKeys headed response ⊎ RefusesRowKeys file headed response
