-- What is left to prove of `lossy_exit`: its clause `says`.
use Rattle.desk_designs.proofs.join.lossy_exit.Goals as goal

pub returns : goal.returns
returns c = record { says = λ response is. c.with_text.ensures.says _ c.lossy_lines.ensures.text response is }
