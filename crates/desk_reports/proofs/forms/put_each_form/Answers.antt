-- What is left to prove of `put_each_form`: its clause, piece by piece.
use Rattle.desk_reports.proofs.PieceLemmas.{adds_both}
use Rattle.desk_reports.proofs.forms.put_each_form.Goals as goal

pub returns : goal.returns
returns c = record {
  added = adds_both _ _ _ _ _ c.in_ok-put_form.ensures.added
      (adds_both _ _ _ _ _ c.in_ok-put_form-2.ensures.added
      (adds_both _ _ _ _ _ c.in_ok-put_form-3.ensures.added c.in_ok-put_form-4.ensures.added));
}
