-- What is left to prove of `put_rules`: that the invariant of its loop holds at first and stays, by `each_more`.
use Rattle.std.proofs.Common.{[], refl}
use Rattle.desk_reports.specs.Pieces.{Just}
use Rattle.desk_reports.specs.Rules.{ShowsRule}
use Rattle.desk_reports.proofs.PieceLemmas.{adds_nothing, each_more}
use Rattle.desk_reports.proofs.rules.put_rules.Goals as goal

pub loop-k-init : goal.loop-k-init
loop-k-init c = adds_nothing (Just []) _ refl

pub loop-k-preserved : goal.loop-k-preserved
loop-k-preserved c =
    each_more c.loop-k.k (ShowsRule c.args.schema.now) _ _ _ c.loop-k.invariant c.in_ok-put_rule.ensures.added
