-- What is left to prove of `empty_set_exit`: its clause `says`.
use Rattle.desk_implication.proofs.projecting.empty_set_exit.Goals as goal

pub returns : goal.returns
returns c = record { says = λ response is. c.with_text.ensures.says _ c.line_of.ensures.line response is }
