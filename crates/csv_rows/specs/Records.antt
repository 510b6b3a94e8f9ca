-- The records of a CSV text, as `csv` defines them, and what a reader has still to give: for
-- `Reading`, and for `read_headed` of fd_discovery.
use Rattle.std.specs.Prelude.{◌≡◌, ◌+◌, ℕ, Bool, true, false, List, [], ◌∷◌, length, Some, ⊤}
use Rattle.std.specs.Borrow.{Bor}
use Rattle.csv.specs.Machine.{ends_at_end}
use Rattle.csv.specs.Reading.{records, records_from, strip_bom, default_config, source_of, reader_config, reader_trim, reader_state, is_flexible, Ready, error_kind}
use Rattle.csv.specs.declared.reader.Reader.{Reader}
use Rattle.csv.specs.declared.reader.Trim.TheVariants as trim
use Rattle.csv.specs.declared.error.Error.{Error}
use Rattle.csv.specs.declared.error.ErrorKind.{ErrorKind}
use Rattle.csv.specs.declared.error.ErrorKind.TheVariants as kind

-- the records of a text as `csv` defines them: a comma between fields, double quotes, no trimming.
-- An empty line is no record. One byte-order mark at the start is left out
abbrev pub records_of : List ℕ → List (List (List ℕ))
records_of text = records default_config (strip_bom text)

-- a reader with the default settings, of records of any length and with no header row, stands
-- between two records, and these are still to come
pub record HasLeft (reader : Reader (Bor (List ℕ))) (rs : List (List (List ℕ))) : Type 0 where
  pub config : reader_config reader ≡ default_config
  pub trim : reader_trim reader ≡ trim.None
  pub flexible : is_flexible reader ≡ true
  pub ready : Ready reader
  pub between : ends_at_end (reader_state reader) ≡ false
  pub rest : List ℕ
  pub source : source_of (λ s. Some s.now) reader ≡ Some rest
  pub left : records_from default_config (length rest + 1) (reader_state reader) rest ≡ rs

-- the next record was taken, or there was none
abbrev pub TakesRecord : Bool → Reader (Bor (List ℕ)) → Reader (Bor (List ℕ)) → List (List ℕ) → Type 0
TakesRecord true old new fields =
    (rs : List (List (List ℕ))) → HasLeft old rs
    → (more : List (List (List ℕ))) × (rs ≡ fields ∷ more) × HasLeft new more
TakesRecord false old new fields = (rs : List (List (List ℕ))) → HasLeft old rs → rs ≡ []

-- a failure that says nothing of the text
abbrev pub IsOutsideKind : ErrorKind → Type 0
IsOutsideKind (kind.Io e) = ⊤
IsOutsideKind kind.OutOfMemory = ⊤
IsOutsideKind (kind.UnequalLengths pos expected len) = ⊥
IsOutsideKind (kind.Utf8 pos err) = ⊥
IsOutsideKind (kind.Serialize text) = ⊥
IsOutsideKind (kind.Deserialize pos err) = ⊥

abbrev pub IsOutside : Error → Type 0
IsOutside e = IsOutsideKind (error_kind e)
