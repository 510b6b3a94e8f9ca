-- What is left to prove of `offences_exit`: its clause `says`.
use Rattle.desk_tables.proofs.rows.offences_exit.Goals as goal

pub returns : goal.returns
returns c = record { says = λ response is. c.with_text.ensures.says _ c.offence_lines.ensures.text response is }
