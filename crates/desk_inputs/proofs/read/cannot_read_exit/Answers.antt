-- What is left to prove of `cannot_read_exit`: its clause `says`.
use Rattle.desk_inputs.proofs.read.cannot_read_exit.Goals as goal

pub returns : goal.returns
returns c = record { says = λ response is. c.with_text.ensures.says _ c.cannot_read_line.ensures.line response is }
