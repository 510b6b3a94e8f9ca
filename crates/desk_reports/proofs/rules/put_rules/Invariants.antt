-- What the loop of `put_rules` keeps, in terms of `EachBelow`.
use Rattle.desk_reports.specs.Answers.{Adds}
use Rattle.desk_reports.specs.Pieces.{EachBelow}
use Rattle.desk_reports.specs.Rules.{ShowsRule}
use Rattle.desk_reports.proofs.rules.put_rules.Given as goal

abbrev pub invariant-loop-k : goal.invariant-loop-k
invariant-loop-k l = Adds (EachBelow l.k (ShowsRule l.schema)) l.fn.text.items l.text.items
