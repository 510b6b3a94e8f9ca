-- What is left to prove of `untidy_exit`: its clause `says`.
use Rattle.desk_tables.proofs.tidiness.untidy_exit.Goals as goal

pub returns : goal.returns
returns c = record { says = λ response is. c.with_text.ensures.says _ c.untidy_lines.ensures.text response is }
