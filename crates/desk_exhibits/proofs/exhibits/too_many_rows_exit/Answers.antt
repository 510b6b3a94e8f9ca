-- What is left to prove of `too_many_rows_exit`: its clause `says`.
use Rattle.desk_exhibits.proofs.exhibits.too_many_rows_exit.Goals as goal

pub returns : goal.returns
returns c = record { says = λ response is. c.with_text.ensures.says _ c.too_many_rows_line.ensures.line response is }
