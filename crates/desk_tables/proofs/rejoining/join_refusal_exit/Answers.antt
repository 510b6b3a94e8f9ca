-- What is left to prove of `join_refusal_exit`: its clause `says`.
use Rattle.desk_tables.proofs.rejoining.join_refusal_exit.Goals as goal

pub returns : goal.returns
returns c = record { says = λ response is. c.with_text.ensures.says _ c.join_refusal_line.ensures.line response is }
