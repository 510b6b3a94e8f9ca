-- What is left to prove of `refusal_exit`: its clause `says`.
use Rattle.desk_refusals.proofs.exits.refusal_exit.Goals as goal

pub returns : goal.returns
returns c = record { says = λ response is. c.with_text.ensures.says _ c.refusal_line.ensures.text response is }
