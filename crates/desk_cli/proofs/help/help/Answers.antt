-- What is left to prove of `help`: what it answers in the case `Ok`.
use Rattle.std.proofs.Common.{ℕ, List, ap, ◌∙◌}
use Rattle.desk_responses.specs.declared.status.Status.TheVariants.{Yes}
use Rattle.desk_responses.specs.ResponseValues.{text_only}
use Rattle.desk_cli.proofs.help.help.Goals as goal

pub returns-in-Ok : goal.returns-in-Ok
returns-in-Ok c = record { response = c.with_text.ensures.says ∙ ap (λ (text : List ℕ). text_only Yes text) c.in-Ok.ensures.items }
