-- What is left to prove of `violation_exit`: its clause `says`.
use Rattle.desk_designs.proofs.form.violation_exit.Goals as goal

pub returns : goal.returns
returns c = record { says = λ response is. c.with_text.ensures.says _ c.violation_lines.ensures.text response is }
