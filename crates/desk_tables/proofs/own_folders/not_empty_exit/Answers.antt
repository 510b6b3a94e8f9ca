-- What is left to prove of `not_empty_exit`: its clause `says`.
use Rattle.desk_tables.proofs.own_folders.not_empty_exit.Goals as goal

pub returns : goal.returns
returns c = record { says = λ response is. c.with_text.ensures.says _ c.not_empty_line.ensures.line response is }
