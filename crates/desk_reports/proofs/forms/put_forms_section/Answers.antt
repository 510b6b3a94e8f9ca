-- What is left to prove of `put_forms_section`: its clause, piece by piece.
use Rattle.std.proofs.Common.{codes, refl}
use Rattle.desk_reports.proofs.PieceLemmas.{adds_both, adds_section}
use Rattle.desk_reports.proofs.forms.put_forms_section.Goals as goal

pub returns : goal.returns
returns c = record {
  added = adds_section (codes "Normal forms") (codes "Normal forms") _ _ _ _ refl c.in_ok-add_heading.ensures.added
      (adds_both _ _ _ _ _ c.in_ok-put_which_form.ensures.added c.in_ok-put_each_form.ensures.added);
}
