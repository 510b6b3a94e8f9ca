-- What is left to prove of `unpaired_exit`: its clause `says`.
use Rattle.desk_references.specs.Checks.{as_many_text}
use Rattle.desk_references.proofs.checking.unpaired_exit.Goals as goal

pub returns : goal.returns
returns c = record { says = λ response is. c.with_text.ensures.says as_many_text c.line_of.ensures.line response is }
