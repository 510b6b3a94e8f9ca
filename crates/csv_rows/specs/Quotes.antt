-- Whether the last record of a text has a quote that is never closed, by the machine that parts a
-- text into records: for `Reading`, and for `Headings` of fd_discovery.
use Rattle.std.specs.Prelude.{◌==◌, ◌||◌, ℕ, Bool, true, false, if◌then◌else◌, List, length, Option, Some, None}
use Rattle.std.specs.List.{fold}
use Rattle.csv.specs.Reading.{strip_bom}
use Rattle.csv_rows.specs.Records.{records_of}
use Rattle.csv_rows.specs.declared.quotes.Place.{Place}
use Rattle.csv_rows.specs.declared.quotes.Place.TheVariants as place

-- the place after a byte that is no quote or stands in a plain field: a comma ends the field, a line's
-- end the record
abbrev pub plain_place : ℕ → Place
plain_place byte =
    if byte == 44 then place.FieldStart
    else if (byte == 13) || (byte == 10) then place.BetweenRecords else place.PlainField

-- the place after one byte more
abbrev pub next_place : Place → ℕ → Place
next_place place.BetweenRecords byte = if byte == 34 then place.QuotedField else plain_place byte
next_place place.FieldStart byte = if byte == 34 then place.QuotedField else plain_place byte
next_place place.PlainField byte = plain_place byte
next_place place.QuotedField byte = if byte == 34 then place.AfterQuote else place.QuotedField
next_place place.AfterQuote byte = if byte == 34 then place.QuotedField else plain_place byte

-- whether no record is begun
abbrev pub is_between : Place → Bool
is_between place.BetweenRecords = true
is_between place.FieldStart = false
is_between place.PlainField = false
is_between place.QuotedField = false
is_between place.AfterQuote = false

-- whether it is within quotes
abbrev pub is_quoted : Place → Bool
is_quoted place.BetweenRecords = false
is_quoted place.FieldStart = false
is_quoted place.PlainField = false
is_quoted place.QuotedField = true
is_quoted place.AfterQuote = false

-- whether a text ends within quotes
abbrev pub ends_within_quotes : List ℕ → Bool
ends_within_quotes text = is_quoted (fold next_place place.BetweenRecords (strip_bom text))

-- the number of the record that has an open quote, from 1: the last one of a text that ends within quotes
abbrev pub open_record : List ℕ → Option ℕ
open_record text = if ends_within_quotes text then Some (length (records_of text)) else None

-- whether the record of this number is the open one
abbrev pub is_open : Option ℕ → ℕ → Bool
is_open None number = false
is_open (Some unclosed) number = unclosed == number
