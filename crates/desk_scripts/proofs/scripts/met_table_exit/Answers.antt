-- What is left to prove of `met_table_exit`: its clause `says`.
use Rattle.desk_scripts.proofs.scripts.met_table_exit.Goals as goal

pub returns : goal.returns
returns c = record { says = λ response is. c.with_text.ensures.says _ c.met_table_line.ensures.line response is }
