-- What is left to prove of `import_refusal_exit`: its clause `says`.
use Rattle.desk_imports.proofs.refusals.import_refusal_exit.Goals as goal

pub returns : goal.returns
returns c = record { says = λ response is. c.with_text.ensures.says _ c.import_refusal_line.ensures.text response is }
