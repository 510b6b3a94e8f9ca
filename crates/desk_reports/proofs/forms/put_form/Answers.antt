-- What is left to prove of `put_form`: its clause, piece by piece.
use Rattle.desk_reports.proofs.PieceLemmas.{adds_both}
use Rattle.desk_reports.proofs.forms.put_form.Goals as goal

pub returns : goal.returns
returns c = record { added = adds_both _ _ _ _ _ c.in_ok-put_judged.ensures.added c.in_ok-put_violation.ensures.added }
