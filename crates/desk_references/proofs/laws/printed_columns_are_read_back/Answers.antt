-- The law `printed_columns_are_read_back`, by `printed_means`.
use Rattle.desk_references.proofs.PrintedLemmas.{printed_means}
use Rattle.desk_references.proofs.laws.printed_columns_are_read_back.Goals as goal

pub returns : goal.returns
returns c = record { columns = printed_means }
