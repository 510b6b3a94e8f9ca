-- What is left to prove of `too_long_exit`: its clause `says`.
use Rattle.desk_inputs.proofs.read.too_long_exit.Goals as goal

pub returns : goal.returns
returns c = record { says = λ response is. c.with_text.ensures.says _ c.too_long_line.ensures.line response is }
