-- What a CSV text means whose header is free, or its first refusal: for `read_headed`, and the commands
-- that read such a file (`desk_inputs/Headed`).
use Rattle.std.specs.Prelude.{◌≡◌, ◌≢◌, ◌+◌, ◌<◌, ◌≤◌, ◌⊎◌, ℕ, Bool, true, false, Option, List, [], ◌∷◌, length}
use Rattle.std.specs.Borrow.{Bor}
use Rattle.csv.specs.declared.reader.Reader.{Reader}
use Rattle.csv_rows.specs.Quotes.{ends_within_quotes, open_record, is_open}
use Rattle.csv_rows.specs.Records.{records_of, HasLeft}
use Rattle.row_store.specs.Rows.{row_at}
use Rattle.dep_model.specs.Tuples.{Relation, IsOver}
use Rattle.headed_rows.specs.Headers.{IsHeaderWithin, RefusesColumnHeader}
use Rattle.headed_rows.specs.declared.headed_rows.Headed.{Headed}
use Rattle.headed_rows.specs.declared.headed_rows.Limits.{Limits}
use Rattle.row_store.specs.declared.limits.TheConstants.{MOST_HEADED_ROWS, WIDEST_HEADED}
use Rattle.headed_rows.specs.declared.refusal.HeaderRefusal.{HeaderRefusal}
use Rattle.headed_rows.specs.declared.refusal.HeaderRefusal.TheVariants as refusal

-- rows, and the names that a header gives their columns
pub record HeadedRows : Type 0 where
  pub names : List (List ℕ)
  pub rows : Relation

-- the rows of the code with their names
abbrev pub headed_of : Headed → HeadedRows
headed_of h = record { names = h.names.items; rows = h.rows }

-- the records of a text are a header, and below it the rows, within these limits
pub record IsHeadedWithin (limits : Limits) (text : List ℕ) (h : HeadedRows) : Type 0 where
  pub all : records_of text ≡ h.names ∷ h.rows
  pub closed : ends_within_quotes text ≡ false
  pub header : IsHeaderWithin limits.columns h.names
  pub even : IsOver (length h.names) h.rows
  pub within_limit : length h.rows ≤ limits.rows

-- the limits of a text whose dependencies are looked for
abbrev pub discovered : Limits
discovered = record { columns = WIDEST_HEADED; rows = MOST_HEADED_ROWS }

-- the same, of such a text
abbrev pub IsHeaded : List ℕ → HeadedRows → Type 0
IsHeaded text h = IsHeadedWithin discovered text h

-- whether the row at a position is the record that has an open quote; the header is record 1
abbrev pub is_open_at : Option ℕ → ℕ → Bool
is_open_at unclosed i = is_open unclosed (i + 2)

-- the record at a position below a header of n fields is one of at most so many rows
abbrev pub FitsRow : ℕ → Option ℕ → ℕ → ℕ → List (List ℕ) → Type 0
FitsRow most unclosed n i fields =
    (is_open_at unclosed i ≡ false) × (length fields ≡ n) × (i < most)

-- why it is none: an open quote comes before all else
abbrev pub RefusesRow : ℕ → Option ℕ → ℕ → ℕ → List (List ℕ) → HeaderRefusal → Type 0
RefusesRow most unclosed n i fields (refusal.OpenRow row) = (row ≡ i + 1) × (is_open_at unclosed i ≡ true)
RefusesRow most unclosed n i fields (refusal.UnevenRow row) =
    (row ≡ i + 1) × (is_open_at unclosed i ≡ false) × (length fields ≢ n)
RefusesRow most unclosed n i fields refusal.TooManyRows =
    (is_open_at unclosed i ≡ false) × (length fields ≡ n) × (most ≤ i)
RefusesRow most unclosed n i fields refusal.NoHeader = ⊥
RefusesRow most unclosed n i fields refusal.OpenHeader = ⊥
RefusesRow most unclosed n i fields refusal.TooManyColumns = ⊥
RefusesRow most unclosed n i fields (refusal.BadColumn c) = ⊥
RefusesRow most unclosed n i fields (refusal.DoubleColumn c) = ⊥

-- the first m records are rows
abbrev pub AreRows : ℕ → Option ℕ → ℕ → Relation → ℕ → Type 0
AreRows most unclosed n records m = (i : ℕ) → i < m → FitsRow most unclosed n i (row_at records i)

-- the first record below a header of n fields that is no row is refused so
pub record RefusesRows (most : ℕ) (unclosed : Option ℕ) (n : ℕ) (records : Relation) (e : HeaderRefusal)
    : Type 0 where
  pub at : ℕ
  pub within : at < length records
  pub before : AreRows most unclosed n records at
  pub refused : RefusesRow most unclosed n at (row_at records at) e

-- why a header that may have an open quote is none
abbrev pub RefusesHeader : ℕ → Bool → List (List ℕ) → HeaderRefusal → Type 0
RefusesHeader widest true header e = e ≡ refusal.OpenHeader
RefusesHeader widest false header e = RefusesColumnHeader widest header e

-- why records, of which one may have an open quote, are no rows under a header
abbrev pub RefusesRecords : Limits → Option ℕ → List (List (List ℕ)) → HeaderRefusal → Type 0
RefusesRecords limits unclosed [] e = e ≡ refusal.NoHeader
RefusesRecords limits unclosed (header ∷ rows) e =
    RefusesHeader limits.columns (is_open unclosed 1) header e
    ⊎ ((is_open unclosed 1 ≡ false) × IsHeaderWithin limits.columns header
    × RefusesRows limits.rows unclosed (length header) rows e)

-- why a text has no rows under a header within these limits
abbrev pub IsRefusedWithin : Limits → List ℕ → HeaderRefusal → Type 0
IsRefusedWithin limits text e = RefusesRecords limits (open_record text) (records_of text) e

-- the same, of a text whose dependencies are looked for
abbrev pub IsRefusedDiscovery : List ℕ → HeaderRefusal → Type 0
IsRefusedDiscovery text e = IsRefusedWithin discovered text e

-- the header of a text was read, and the records below it are still to come
pub record ReadsNames (widest : ℕ) (unclosed : Option ℕ) (rs : List (List (List ℕ)))
    (reader : Reader (Bor (List ℕ))) (names : List (List ℕ)) : Type 0 where
  pub records : List (List (List ℕ))
  pub all : rs ≡ names ∷ records
  pub closed : is_open unclosed 1 ≡ false
  pub header : IsHeaderWithin widest names
  pub left : HasLeft reader records

-- there is no header, or it is refused
abbrev pub RefusesNames : ℕ → Option ℕ → List (List (List ℕ)) → HeaderRefusal → Type 0
RefusesNames widest unclosed [] e = e ≡ refusal.NoHeader
RefusesNames widest unclosed (header ∷ records) e = RefusesHeader widest (is_open unclosed 1) header e
