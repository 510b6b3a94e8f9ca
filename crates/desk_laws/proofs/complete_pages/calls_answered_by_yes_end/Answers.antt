-- The law `calls_answered_by_yes_end`, by `yes_calls_end`.
use Rattle.desk_laws.proofs.PageLaws.{yes_calls_end}
use Rattle.desk_laws.proofs.complete_pages.calls_answered_by_yes_end.Goals as goal

pub returns : goal.returns
returns g c = record {
  law = λ words files source after sink notices old new folder filled result desk nowhere answered status is.
      yes_calls_end words files _ sink notices _ _ result desk nowhere answered status is;
}
