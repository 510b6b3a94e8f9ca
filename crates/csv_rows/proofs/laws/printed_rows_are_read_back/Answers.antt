-- The law `printed_rows_are_read_back`, by `printed_back`.
use Rattle.csv_rows.proofs.PrintedRows.{printed_back}
use Rattle.csv_rows.proofs.laws.printed_rows_are_read_back.Goals as goal

pub returns : goal.returns
returns c = record { law = printed_back }
