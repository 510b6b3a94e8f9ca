-- What is left to prove of `bad_table_exit`: its clause `says`.
use Rattle.desk_responses.proofs.lines.bad_table_exit.Goals as goal

pub returns : goal.returns
returns c = record { says = λ response is. c.with_text.ensures.says _ c.bad_table_line.ensures.line response is }
