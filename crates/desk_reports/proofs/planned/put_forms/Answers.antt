-- What is left to prove of `put_forms`: its clause, piece by piece.
use Rattle.desk_reports.proofs.PieceLemmas.{adds_both}
use Rattle.desk_reports.proofs.planned.put_forms.Goals as goal

pub returns : goal.returns
returns c = record {
  added = adds_both _ _ _ _ _ c.in_ok-put_form_of.ensures.added
      (adds_both _ _ _ _ _ c.in_ok-put_form_of-2.ensures.added c.in_ok-put_form_of-3.ensures.added);
}
