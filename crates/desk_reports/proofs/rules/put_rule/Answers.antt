-- What is left to prove of `put_rule`: its clause.
use Rattle.std.proofs.Common.{refl}
use Rattle.desk_reports.specs.Rules.{ShowsRule, rule_text}
use Rattle.desk_reports.proofs.PieceLemmas.{adds_just}
use Rattle.desk_reports.proofs.rules.put_rule.Goals as goal

pub returns : goal.returns
returns c =
    let s = c.args.schema.now in
    let k = c.args.k in
    let follows = c.in_ok-follows.follows in
    record {
      added = adds_just (ShowsRule s k) _ (rule_text s k follows) _ (follows, c.in_ok-follows.ensures.follows, refl)
          c.in_ok-put_rule_line.ensures.added;
    }
