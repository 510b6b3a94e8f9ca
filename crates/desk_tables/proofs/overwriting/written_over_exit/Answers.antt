-- What is left to prove of `written_over_exit`: its clause `says`.
use Rattle.desk_tables.proofs.overwriting.written_over_exit.Goals as goal

pub returns : goal.returns
returns c = record { says = λ response is. c.with_text.ensures.says _ c.written_over_line.ensures.line response is }
