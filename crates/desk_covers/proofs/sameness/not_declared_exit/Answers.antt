-- What is left to prove of `not_declared_exit`: its clause `says`.
use Rattle.desk_covers.proofs.sameness.not_declared_exit.Goals as goal

pub returns : goal.returns
returns c = record { says = λ response is. c.with_text.ensures.says _ c.not_declared_line.ensures.line response is }
