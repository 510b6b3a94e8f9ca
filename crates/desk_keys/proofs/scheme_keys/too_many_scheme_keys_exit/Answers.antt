-- What is left to prove of `too_many_scheme_keys_exit`: its clause `says`.
use Rattle.desk_keys.proofs.scheme_keys.too_many_scheme_keys_exit.Goals as goal

pub returns : goal.returns
returns c = record { says = λ response is. c.with_text.ensures.says _ c.too_many_scheme_keys_line.ensures.line response is }
