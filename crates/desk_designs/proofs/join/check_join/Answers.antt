-- What is left to prove of `check_join`: its clause `response`.
use Rattle.std.proofs.Common.{inr}
use Rattle.desk_designs.proofs.join.check_join.Goals as goal

pub returns : goal.returns
returns c = record { response = inr (c.in-Ok.ensures.ok, c.in_ok-lossless_response.ensures.says) }
