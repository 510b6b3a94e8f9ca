-- What is left to prove of `put_plan_section`: its clause, piece by piece.
use Rattle.std.proofs.Common.{codes, refl}
use Rattle.desk_reports.proofs.PieceLemmas.{adds_both, adds_section}
use Rattle.desk_reports.proofs.planned.put_plan_section.Goals as goal

pub returns : goal.returns
returns c = record {
  added = adds_section (codes "Your tables") (codes "Your tables") _ _ _ _ refl c.in_ok-add_heading.ensures.added
      (adds_both _ _ _ _ _ c.in_ok-put_join.ensures.added
      (adds_both _ _ _ _ _ c.in_ok-put_forms.ensures.added c.in_ok-put_use.ensures.added));
}
