-- What is left to prove of `too_wide_exit`: its clause `says`.
use Rattle.desk_responses.proofs.lines.too_wide_exit.Goals as goal

pub returns : goal.returns
returns c = record { says = λ response is. c.with_text.ensures.says _ c.too_wide_line.ensures.line response is }
