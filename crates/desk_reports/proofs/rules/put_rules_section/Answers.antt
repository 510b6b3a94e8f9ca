-- What is left to prove of `put_rules_section`: its clause, by its list.
use Rattle.std.proofs.Common.{codes, refl}
use Rattle.desk_reports.specs.Rules.{ShowsRules}
use Rattle.desk_reports.proofs.PieceLemmas.{adds_section}
use Rattle.desk_reports.proofs.rules.put_rules_section.Goals as goal

pub returns : goal.returns
returns c = record {
  added = adds_section (codes "Rules") (codes "Rules") (ShowsRules c.args.schema.now) _ _ _ refl c.in_ok-add_heading.ensures.added
      c.in_ok-put_rules_list.ensures.added;
}
