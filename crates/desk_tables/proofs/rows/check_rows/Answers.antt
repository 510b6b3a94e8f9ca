-- What is left to prove of `check_rows`: its clause `response`.
use Rattle.std.proofs.Common.{inr}
use Rattle.desk_tables.proofs.rows.check_rows.Goals as goal

pub returns : goal.returns
returns c = record { response = inr (c.in-Ok.ensures.ok, c.in_ok-legal_response.ensures.says) }
