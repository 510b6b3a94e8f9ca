-- What is left to prove of `multivalued_exit`: its clause `says`.
use Rattle.desk_responses.proofs.multivalued.multivalued_exit.Goals as goal

pub returns : goal.returns
returns c = record { says = λ response is. c.with_text.ensures.says _ c.multivalued_line.ensures.line response is }
