-- The law `answered_calls_end`, by `calls_end`.
use Rattle.desk_laws.proofs.CompleteLaws.{calls_end}
use Rattle.desk_laws.proofs.complete.answered_calls_end.Goals as goal

pub returns : goal.returns
returns g c = record {
  law = λ words files source after sink notices old new folder filled result desk nowhere answered status is.
      calls_end words files _ sink notices _ _ result desk nowhere answered status is;
}
