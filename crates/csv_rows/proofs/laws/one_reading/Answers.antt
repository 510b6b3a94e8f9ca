-- What is left to prove of `one_reading`: its clauses `rows` and `part`, by `UniqueRows`.
use Rattle.std.proofs.Common.{◌≡◌}
use Rattle.csv_rows.specs.Columns.{columns_of_header, IsHeaderOf}
use Rattle.csv_rows.specs.Quotes.{open_record}
use Rattle.csv_rows.specs.Records.{records_of}
use Rattle.csv_rows.proofs.UniqueRows.{table_same, whole_header_same, part_header_same}
use Rattle.schema_model.specs.Schemas.{names_of, width_of}
use Rattle.csv_rows.proofs.laws.one_reading.Goals as goal

pub returns : goal.returns
returns c = record {
  rows = λ s text one other p q. table_same s (IsHeaderOf (width_of s) (names_of s)) (whole_header_same s) (open_record text) (records_of text) one other p q;
  part = λ s text one other p q. table_same s (λ header columns. columns ≡ columns_of_header (names_of s) header) (part_header_same s) (open_record text) (records_of text) one other p q;
}
